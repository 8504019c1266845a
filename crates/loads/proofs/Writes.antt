-- The writes of a load: none at first, and one more at each touched cell.
use Rattle.std.proofs.Common.{◌≡◌, ℕ, ◌+◌, ◌<◌, [], ◌∷◌, ◌++◌, ℤ, ◌+ℤ◌, refl, inl, inr, arith}
use Rattle.std.proofs.lemmas.Bool.{cases_lt}
use Rattle.std.proofs.lemmas.List.Elements.{All-nil, All-push, All-weaker, Contains-append_left, Contains-push}
use Rattle.haar.specs.declared.coefficient.Coefficient.{Coefficient}
use Rattle.haar.specs.Tiles.{cell_number}
use Rattle.haar.specs.Haar.{value}
use Rattle.store.specs.Writing.{Putting, entry}
use Rattle.store.proofs.Writing.{rising_more, written_more}
use Rattle.loads.specs.Reach.{Meets}
use Rattle.loads.specs.Skips.{adding_later}
use Rattle.loads.specs.Writes.{Adding, Wrote}

module _ {S : Type 0} (puts : Putting S) (T n m p : ℕ) (g x : ℕ → ℤ) (s : S) where
  pub wrote_start : Wrote puts T n m p g x s s 0
  wrote_start = record {
    writes = [];
    touching = record { rising = tt; each = All-nil (Adding T n m p g x 0); every = λ c me l. absurd (omega arith) };
    written = refl;
  }

  pub wrote_step : (t u : S) (from : ℕ) (c : Coefficient) (v : ℤ) → Wrote puts T n m p g x s t from
      → Meets n m p c → cell_number T c ≡ from → v ≡ x from +ℤ value n g c → puts t from v u
      → Wrote puts T n m p g x s u (from + 1)
  wrote_step t u from c v wrote me at e put =
      let w = entry from v in
      let ws = wrote.writes in
      let k = wrote.touching in
      let here : Adding T n m p g x (from + 1) w = record {
        below = omega arith;
        share = value n g c;
        takes = record { coefficient = c; meets = me; numbered = at; is = refl };
        number = e;
      } in
      record {
        writes = ws ++ w ∷ [];
        touching = record {
          rising = rising_more ws w k.rising (All-weaker (Adding T n m p g x from) (λ v. v.cell < from) (λ v a. a.below) ws k.each);
          each = All-push (Adding T n m p g x (from + 1)) ws w (adding_later T n m p g x from (from + 1) (omega arith) ws k.each) here;
          every = λ d me' l.
              elim (cases_lt (cell_number T d) from) [
                | inl before ↦ let (v, has, is) = k.every d me' before in (v, Contains-append_left ws (w ∷ []) v has, is)
                | inr after ↦ (w, Contains-push ws w, omega arith)
              ];
        };
        written = written_more puts ws w s t u wrote.written put;
      }
