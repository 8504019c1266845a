-- Stores that agree below the count answer every reading alike.
use Rattle.std.proofs.Common.{◌≡◌, ℕ, ◌<◌, ◌≤◌, cond, ltb, Ok, Err, sym, ap, ◌∙◌, subst, ⊎_elim}
use mathlib.Core.Path.{fun_ext}
use Rattle.std.proofs.lemmas.Bool.{cases_lt, lt-ltb, le-ltb, cond-true, cond-false}
use Rattle.haar.specs.Tiles.{cell_count}
use Rattle.store.specs.Meaning.{Meaning}
use Rattle.store.specs.declared.fault.CellFault.TheVariants as cell
use Rattle.warehouse.specs.declared.fault.Fault.TheVariants.{Cell}
use Rattle.warehouse.specs.Read.{look}

pub same_look : (s t : Meaning) → s.bands ≡ t.bands → ((c : ℕ) → c < cell_count s.bands → s.cells c ≡ t.cells c) → look s ≡ look t
same_look s t b e =
    fun_ext (λ c.
    ⊎_elim
    (λ (lt : c < cell_count s.bands).
    cond-true (ltb c (cell_count s.bands)) (Ok (s.cells c)) (Err (Cell (cell.Cell c))) (lt-ltb c _ lt) ∙ ap Ok (e c lt)
    ∙ sym (cond-true (ltb c (cell_count t.bands)) (Ok (t.cells c)) (Err (Cell (cell.Cell c))) (lt-ltb c _ (subst (λ T. c < cell_count T) b lt))))
    (λ (le : cell_count s.bands ≤ c).
    cond-false (ltb c (cell_count s.bands)) (Ok (s.cells c)) (Err (Cell (cell.Cell c))) (le-ltb c _ le)
    ∙ sym (cond-false (ltb c (cell_count t.bands)) (Ok (t.cells c)) (Err (Cell (cell.Cell c))) (le-ltb c _ (subst (λ T. cell_count T ≤ c) b le))))
    (cases_lt c (cell_count s.bands)))

-- a cell below the count
pub look_below : (s : Meaning) (c : ℕ) → c < cell_count s.bands → look s c ≡ Ok (s.cells c)
look_below s c h = ap (λ b. cond b (Ok (s.cells c)) (Err (Cell (cell.Cell c)))) (lt-ltb c (cell_count s.bands) h)
