-- A run of writes with one more at its end, and what each of its writes keeps.
use Rattle.std.proofs.Common.{ℕ, ◌+◌, ◌<◌, List, [], ◌∷◌, ◌++◌, length, take, ℤ, sym, refl, subst, add-one}
use Rattle.std.proofs.Math.Seq.{take-suc}
use Rattle.std.specs.List.{All}
use Rattle.std.proofs.lemmas.List.Elements.{All-nil, All-head, All-tail, All-push}
use Rattle.store.specs.declared.entry.Entry.{Entry}
use Rattle.store.specs.Table.{entry_at}
use Rattle.store.specs.Writing.{Putting, Rising, Written}

pub rising_more : (ws : List Entry) (w : Entry) → Rising ws → All (λ v. v.cell < w.cell) ws → Rising (ws ++ w ∷ [])
rising_more [] w r below = (All-nil (λ v. w.cell < v.cell), tt)
rising_more (v ∷ ws) w r below =
    let P : Entry → Type 0 = λ u. u.cell < w.cell in
    (All-push (λ u. v.cell < u.cell) ws w r.0 (All-head P v ws below), rising_more ws w r.1 (All-tail P v ws below))

module _ {S : Type 0} (puts : Putting S) where
  pub written_more : (ws : List Entry) (w : Entry) (s t u : S) → Written puts ws s t → puts t w.cell w.value u
      → Written puts (ws ++ w ∷ []) s u
  written_more [] w s t u none put = (u, subst (λ x. puts x w.cell w.value u) none put, refl)
  written_more (v ∷ ws) w s t u (x, first, rest) put = (x, first, written_more ws w x t u rest put)

  -- as far as a loop over the writes has come
  pub written_take : (ws : List Entry) (i : ℕ) (s t u : S) → i < length ws → Written puts (take i ws) s t
      → puts t (entry_at ws i).cell (entry_at ws i).value u → Written puts (take (i + 1) ws) s u
  written_take ws i s t u l written put =
      let more = written_more (take i ws) (entry_at ws i) s t u written put in
      rw (add-one i) (subst (λ xs. Written puts xs s u) (sym (take-suc ws i _ l)) more)

  -- what holds from each store to itself, passes on, and holds over one write, holds over a run of them
  pub written_keeps : (R : S → S → Type 0) → ((s : S) → R s s) → ((s t u : S) → R s t → R t u → R s u)
      → ((s t : S) (c : ℕ) (v : ℤ) → puts s c v t → R s t)
      → (ws : List Entry) (s t : S) → Written puts ws s t → R s t
  written_keeps R same on one [] s t none = subst (λ x. R s x) (sym none) (same s)
  written_keeps R same on one (w ∷ ws) s t (u, first, rest) =
      on s u t (one s u w.cell w.value first) (written_keeps R same on one ws u t rest)
