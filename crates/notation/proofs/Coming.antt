-- What is written of a feed so far, and what is still to come.
use Rattle.std.proofs.Common.{◌≡◌, ℕ, ◌+◌, ◌-◌, ◌<◌, ◌≤◌, List, [], ◌∷◌, ◌++◌, length, Ok, Err, sym, ap, ◌∙◌, append_assoc, arith}
use Rattle.std.specs.List.{flat_map}
use Rattle.std.proofs.lemmas.List.{append-nil}
use Rattle.wire.specs.declared.command.Command.{Command}
use Rattle.wire.specs.declared.command.DecodeFault.{DecodeFault}
use Rattle.wire.specs.Decode.{decoded}
use Rattle.notation.specs.Parts.{Part, whole, unread, parts_from, parts_of}
use Rattle.wire.proofs.Rows.{shorter}
use Rattle.notation.proofs.Parts.{parts_none, parts_whole, parts_unread}

-- the parts of the feed bs, each written by f: those up to the bytes `rest` are `out`
pub record Coming (f : Part → List ℕ) (bs rest out : List ℕ) : Type 0 where
  pub within : length rest ≤ length bs
  pub lines : out ++ flat_map f (parts_from (length bs - length rest) rest) ≡ flat_map f (parts_of bs)

pub coming_first : (f : Part → List ℕ) (bs : List ℕ) → Coming f bs bs []
coming_first f bs =
    let none : length bs - length bs ≡ 0 = omega arith in
    record { within = omega arith; lines = ap (λ i. flat_map f (parts_from i bs)) none }

pub coming_more : (f : Part → List ℕ) (bs rest out after : List ℕ) (c : Command) → Coming f bs rest out → decoded rest ≡ Ok (c, after)
    → Coming f bs after (out ++ f (whole (length bs - length rest) c))
coming_more f bs rest out after c come e =
    let h = shorter rest after c e in
    let l = come.within in
    let at : length bs - length rest + (length rest - length after) ≡ length bs - length after = omega arith in
    let here = f (whole (length bs - length rest) c) in
    record {
      within = omega arith;
      lines =
          append_assoc out here (flat_map f (parts_from (length bs - length after) after))
          ∙ ap (λ i. out ++ (here ++ flat_map f (parts_from i after))) (sym at)
          ∙ ap (λ ps. out ++ flat_map f ps) (sym (parts_whole (length bs - length rest) rest after c e))
          ∙ come.lines;
    }

pub coming_none : (f : Part → List ℕ) (bs rest out : List ℕ) → Coming f bs rest out → length rest ≡ 0 → out ≡ flat_map f (parts_of bs)
coming_none f bs [] out come e = sym (append-nil out) ∙ ap (λ ps. out ++ flat_map f ps) (sym (parts_none (length bs - 0))) ∙ come.lines
coming_none f bs (b ∷ rest) out come e = absurd (omega arith)

pub coming_unread : (f : Part → List ℕ) (bs rest out : List ℕ) (fault : DecodeFault) → Coming f bs rest out → 0 < length rest → decoded rest ≡ Err fault
    → out ++ f (unread (length bs - length rest) fault rest) ≡ flat_map f (parts_of bs)
coming_unread f bs rest out fault come h e =
    ap (λ x. out ++ x) (sym (append-nil (f (unread (length bs - length rest) fault rest))))
    ∙ ap (λ ps. out ++ flat_map f ps) (sym (parts_unread (length bs - length rest) rest fault h e))
    ∙ come.lines

-- the unread bytes are the last
pub coming_last : (f : Part → List ℕ) (bs rest out : List ℕ) (fault : DecodeFault) → Coming f bs rest out → 0 < length rest → decoded rest ≡ Err fault
    → Coming f bs [] (out ++ f (unread (length bs - length rest) fault rest))
coming_last f bs rest out fault come h e =
    record {
      within = omega arith;
      lines =
          ap (λ ps. out ++ f (unread (length bs - length rest) fault rest) ++ flat_map f ps) (parts_none (length bs - 0))
          ∙ append-nil (out ++ f (unread (length bs - length rest) fault rest))
          ∙ coming_unread f bs rest out fault come h e;
    }
