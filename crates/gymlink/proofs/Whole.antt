-- What a sink was shown, where a session on a pile like that of the rules came to its end.
use Rattle.std.proofs.Common.{◌≡◌, ℕ, List, [], ℤ, pos, Ok, Err, Result, ap, ◌∙◌, subst}
use Rattle.store.specs.declared.interface.Store as store
use Rattle.console.specs.declared.ends.Sink as sink
use Rattle.console.specs.declared.fault.RunFault.{RunFault}
use Rattle.linkfeed.specs.Session.{Plays, greeted, greeted_on, whole}
use Rattle.gymlink.specs.Shown.{session_text, no_values}

module _ {S : Type 0} (kind : store.Ghosts S) (s : S) (bands : (kind.means s).bands ≡ 3) (room : (kind.means s).room ≡ pos 1024) (zs : List ℤ) (values : zs ≡ no_values) (captured : List ℕ) where
  by_the_rules : (whole (greeted_on kind s 4 zs captured)).shown ≡ session_text captured
  by_the_rules =
      ap (λ b. (whole (greeted b (kind.means s).room 4 zs captured)).shown) bands
      ∙ ap (λ r. (whole (greeted 3 r 4 zs captured)).shown) room
      ∙ ap (λ values. (whole (greeted 3 (pos 1024) 4 values captured)).shown) values

  module _ {O D : Type 0} (to : sink.Ghosts O D) (k k' : O) (none : to.took k []) (t : S) (zs' : List ℤ) where
    pub shown_whole : {I : Type 0} (r : Result Unit (RunFault I D)) → r ≡ Ok tt → Plays kind s 4 zs captured to k k' r t zs' → to.took k' (session_text captured)
    shown_whole (Ok _) fine (went, handed) = subst (to.took k') by_the_rules (went.comes.took [] none)
    shown_whole (Err e) fine fails = absurd (cc fine)
