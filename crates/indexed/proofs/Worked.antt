-- The worked example, as a history that leads on from a founding.
use Rattle.std.proofs.Common.{◌≡◌, ℕ, ◌-◌, ◌*◌, ◌^◌, ◌<◌, min, cond, eqb, [], ◌∷◌, pos, negsuc, sym, refl, ap, ◌∙◌, subst, ⊎_elim, arith}
use Rattle.std.proofs.lemmas.Int.{ints}
use Rattle.std.proofs.lemmas.Bool.{cases_eq, ne_eqb, cond-false}
use Rattle.haar.specs.Tree.{plain_sum}
use Rattle.haar.specs.Tiles.{tiles_before, cell_count}
use Rattle.haar.specs.Cells.{haar_cells}
use Rattle.haar.specs.Count.{touched_coefficients}
use Rattle.store.specs.Meaning.{filled}
use Rattle.warehouse.specs.declared.fault.Asked.TheVariants.{Minutes}
use Rattle.warehouse.specs.declared.fault.Fault.TheVariants.{Range}
use Rattle.warehouse.specs.Read.{lower, descend, read}
use Rattle.loads.specs.Share.{minutes}
use Rattle.agreement.specs.Call.{load, add, grow, Answer, wrote, grown, gave, refused}
use Rattle.agreement.specs.Check as checks
use Rattle.indexed.specs.Busiest.{parts_of, read_on, parts_cells, busiest_answer}
use Rattle.indexed.specs.Largest.{largest, tile_largest}
use Rattle.indexed.specs.Piles.{Piles, Founded}
use Rattle.indexed.specs.Step.{IndexedCall, plain, busiest, reply, Step}
use Rattle.indexed.specs.Writing.{index_refusal}
use Rattle.indexed.specs.History.{Beginning, founding, piles_at, History, new, more, Leads, begun, tally, recount, went}
use Rattle.indexed.specs.Worked.{gym, worked_1, worked_2, worked_3, worked_4, worked_5, worked_6, worked_7, worked, WorkedHolds}
use Rattle.indexed.proofs.Keeping.{founded_begins}
use Rattle.indexed.proofs.Sound.{sound}

founded : Founded gym
founded =
    record {
      first = record { sized = record { some = omega arith; fits = omega arith }; unmarked = refl; empty = λ d h. refl; room = omega (arith, ints) };
      bands = refl;
      empty = λ d h. refl;
      room = omega (arith, ints);
    }

abbrev recounted : History → Piles
recounted h = recount gym (tally (founding gym) h)

-- one more call, with the answer that the definitions give
told : {h : History} (call : IndexedCall) (a : Answer) → reply (recounted h) call ≡ a → (v : Piles) × Leads (founding gym) h v → (v : Piles) × Leads (founding gym) (more h call a) v
told call a e (v, l) =
    let (b, w, s) = (sound _ _ _ l).able call in
    (w, went l (subst (λ a. Step v call a w) (((sound _ _ _ l).next call b w s).answers ∙ e) s))

reply_1 : reply (recounted new) (plain (load 2 0 4 (negsuc 2 ∷ negsuc 0 ∷ negsuc 1 ∷ negsuc 4 ∷ []))) ≡ wrote 4
unfolding checks.refusal index_refusal largest lower descend read haar_cells touched_coefficients tiles_before plain_sum filled minutes
reply_1 = refl

reply_2 : reply (recounted worked_1) (busiest 0 4) ≡ gave (negsuc 0) 1
unfolding busiest_answer parts_of read_on parts_cells largest lower descend read haar_cells touched_coefficients tiles_before plain_sum minutes
reply_2 = refl

reply_3 : reply (recounted worked_2) (plain grow) ≡ grown 3
unfolding checks.refusal index_refusal largest lower descend read haar_cells touched_coefficients tiles_before plain_sum filled minutes
reply_3 = refl

reply_4 : reply (recounted worked_3) (busiest 0 8) ≡ gave (pos 0) 1
unfolding busiest_answer parts_of read_on parts_cells largest lower descend read haar_cells touched_coefficients tiles_before plain_sum minutes
reply_4 = refl

reply_5 : reply (recounted worked_4) (busiest 0 4) ≡ gave (negsuc 0) 16
unfolding busiest_answer parts_of read_on parts_cells largest lower descend read haar_cells touched_coefficients tiles_before plain_sum minutes
reply_5 = refl

reply_6 : reply (recounted worked_5) (plain (add 5 (pos 7))) ≡ wrote 4
unfolding checks.refusal index_refusal largest lower descend read haar_cells touched_coefficients tiles_before plain_sum filled minutes
reply_6 = refl

reply_7 : reply (recounted worked_6) (busiest 0 8) ≡ gave (pos 7) 1
unfolding busiest_answer parts_of read_on parts_cells largest lower descend read haar_cells touched_coefficients tiles_before plain_sum minutes
reply_7 = refl

reply_8 : reply (recounted worked_7) (busiest 3 3) ≡ refused (record { fault = Range; asked = Minutes 3 3 })
unfolding busiest_answer
reply_8 = refl

happens : (v : Piles) × Leads (founding gym) worked v
happens =
    told _ _ reply_8 (told _ _ reply_7 (told _ _ reply_6 (told _ _ reply_5 (told _ _ reply_4 (told _ _ reply_3 (told _ _ reply_2 (told _ _ reply_1 (gym, begun (founded_begins gym founded)))))))))

-- the recount's index
first_cell : (recounted worked).index.cells 0 ≡ pos 7
unfolding largest minutes
first_cell = refl

other_cell : (c : ℕ) → (c ≡ 0 → ⊥) → (recounted worked).index.cells c ≡ pos 0
unfolding largest
other_cell c ne = let e : min 16 (2 ^ 3 - 16 * c) ≡ 0 = omega arith in ap (largest (tally (founding gym) worked).minutes (16 * c)) e

index_is : (v : Piles) → Leads (founding gym) worked v → (c : ℕ) → c < cell_count 2 → v.index.cells c ≡ cond (eqb c 0) (pos 7) (pos 0)
index_is v l c h =
    let s = sound _ _ _ l in
    let held : v.index.cells c ≡ (recounted worked).index.cells c = s.cells c (subst (λ T. c < cell_count T) (sym s.bands) h) ∙ ap (λ n. tile_largest n (tally (founding gym) worked).minutes c) s.first.size in
    held
    ∙ ⊎_elim
    (λ (e : c ≡ 0). subst (λ c. (recounted worked).index.cells c ≡ cond (eqb c 0) (pos 7) (pos 0)) (sym e) first_cell)
    (λ (ne : c ≡ 0 → ⊥). other_cell c ne ∙ sym (cond-false (eqb c 0) (pos 7) (pos 0) (ne_eqb c 0 ne)))
    (cases_eq c 0)

pub worked_holds : WorkedHolds
worked_holds = (happens, index_is)
