use Rattle.std.proofs.Common.{◌≡◌, ℕ, ◌<◌, ◌≤◌, List, [], Some, None, get_or, refl, rules}
use Rattle.std.proofs.iter.runs.Sources.{ranges}
use Rattle.haar.specs.Tiles.{cell_count}
use Rattle.flat.proofs.Counting.{greatest_found}
use Rattle.flat.proofs.making.most_bands.Goals as goal

-- xs is read at d to show `ranges` that number
pub returns : goal.returns
returns c =
    let some : (T : ℕ) → c.find.result ≡ Some T → (T ≤ 5) × (cell_count T ≤ c.args.numbers) = λ T e. search (rules, ranges) in
    let rest : (T : ℕ) → c.find.result ≡ Some T → (d : ℕ) → T < d → d ≤ 5 → (xs : List ℕ) (x : ℕ) → get_or xs d 0 ≡ x → c.args.numbers < cell_count d = λ T e d lo hi xs x read. search (rules, ranges) in
    let none : c.find.result ≡ None → (d : ℕ) → 0 < d → d ≤ 5 → (xs : List ℕ) (x : ℕ) → get_or xs d 0 ≡ x → c.args.numbers < cell_count d = λ e d lo hi xs x read. search (rules, ranges) in
    greatest_found c.args.numbers c.find.result c.unwrap_or.result c.unwrap_or.ensures some (λ T e d lo hi. rest T e d lo hi [] 0 refl) (λ e d lo hi. none e d lo hi [] 0 refl)
