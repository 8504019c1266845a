-- A list of calls made on a warehouse, and the history that it makes.
--   loaded        the load's finish, as the call of a history: as many of the values as it takes
--   is_begun      a load of this level and index can be begun at size n; one that cannot is no call on the warehouse
--   call_of       a call of the list, with the numbers from which loads take their values, as a call of a history
--   is_made       it is a call on the warehouse
--   Does          a call, if it is made, goes from the view v to w, and the history h becomes g
--   Makes         it does, with some history
--   Played        the calls of the list do, one after another
--   Plays         they do, with some history; and whatever began and led to the view before them, this leads to the view after them
use Rattle.std.specs.Prelude.{◌≡◌, ℕ, ◌^◌, min, Bool, true, false, ◌&&◌, nat_le, List, [], ◌∷◌, length, drop, ℤ}
use Rattle.warehouse.specs.Grading.{inside}
use Rattle.warehouse.specs.View.{View}
use Rattle.agreement.specs.Call as history
use Rattle.agreement.specs.History.{Beginning, History, more, Leads}
use Rattle.agreement.specs.Step.{Step}
use Rattle.compare.specs.declared.call.Call.{Call}
use Rattle.compare.specs.declared.call.Call.TheVariants.{Load, Add, Grow, Settle, Point, Sum, Mean, Trend}

abbrev pub loaded : ℕ → ℕ → List ℤ → history.Call
loaded m p zs = history.load m p (min (2 ^ m) (length zs)) zs

abbrev pub is_begun : ℕ → ℕ → ℕ → Bool
is_begun n m p = nat_le m 12 && inside n m p

abbrev pub call_of : List ℤ → Call → history.Call
call_of zs (Load m p from) = loaded m p (drop from zs)
call_of zs (Add i x) = history.add i x
call_of zs Grow = history.grow
call_of zs Settle = history.settle
call_of zs (Point i) = history.point i
call_of zs (Sum a b) = history.sum a b
call_of zs (Mean a b) = history.mean a b
call_of zs (Trend j k) = history.trend j k

abbrev pub is_made : ℕ → Call → Bool
is_made n (Load m p from) = is_begun n m p
is_made n (Add i x) = true
is_made n Grow = true
is_made n Settle = true
is_made n (Point i) = true
is_made n (Sum a b) = true
is_made n (Mean a b) = true
is_made n (Trend j k) = true

abbrev pub Does : Bool → View → history.Call → History → View → History → Type 0
Does true v call h w g = (answer : history.Answer) × Step v call answer w × (g ≡ more h call answer)
Does false v call h w g = (w ≡ v) × (g ≡ h)

abbrev pub Makes : Bool → View → history.Call → History → View → Type 0
Makes made v call h w = (g : History) × Does made v call h w g

abbrev pub Played : View → List ℤ → List Call → History → View → History → Type 0
Played v zs [] h w g = (w ≡ v) × (g ≡ h)
Played v zs (c ∷ cs) h w g = (u : View) × (f : History) × Does (is_made v.size c) v (call_of zs c) h u f × Played u zs cs f w g

pub record Plays (v : View) (zs : List ℤ) (calls : List Call) (h : History) (w : View) : Type 0 where
  pub history : History
  pub played : Played v zs calls h w history
  pub leads : (start : Beginning) → Leads start h v → Leads start history w
