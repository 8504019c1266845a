-- The histories that lists of calls make.
use Rattle.std.proofs.Common.{◌≡◌, Bool, true, false, List, [], ◌∷◌, ℤ, sym, subst}
use Rattle.warehouse.specs.View.{View}
use Rattle.agreement.specs.Call as history
use Rattle.agreement.specs.History.{Beginning, History, Leads, went}
use Rattle.compare.specs.declared.call.Call.{Call}
use Rattle.compare.specs.Playing.{call_of, is_made, Does, Makes, Played}

does_leads : (start : Beginning) (made : Bool) (v w : View) (call : history.Call) (h g : History) → Does made v call h w g → Leads start h v → Leads start g w
does_leads start true v w call h g d leads = subst (λ x. Leads start x w) (sym d.2) (went leads d.1)
does_leads start false v w call h g d leads = subst (λ x. Leads start x w) (sym d.1) (subst (Leads start h) (sym d.0) leads)

pub played_leads : (start : Beginning) (zs : List ℤ) (calls : List Call) (v w : View) (h g : History) → Played v zs calls h w g → Leads start h v → Leads start g w
played_leads start zs [] v w h g p leads = subst (λ x. Leads start x w) (sym p.1) (subst (Leads start h) (sym p.0) leads)
played_leads start zs (c ∷ cs) v w h g p leads = played_leads start zs cs p.0 w p.1 g p.3 (does_leads start (is_made v.size c) v p.0 (call_of zs c) h p.1 p.2 leads)

-- a call more, and then those that are left
pub play_on : (v u : View) (zs zs' : List ℤ) (left rest : List Call) (c : Call) (h : History) → zs' ≡ zs → left ≡ c ∷ rest → Makes (is_made v.size c) v (call_of zs' c) h u
    → (g : History) × ((w : View) (k : History) → Played u zs rest g w k → Played v zs left h w k)
play_on v u zs zs' left rest c h kept e m =
    let n = subst (λ xs. Makes (is_made v.size c) v (call_of xs c) h u) kept m in
    (n.0, λ w k p. subst (λ xs. Played v zs xs h w k) (sym e) (u, n.0, n.1, p))
