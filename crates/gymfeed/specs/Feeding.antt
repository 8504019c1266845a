-- What gymfeed makes of its input: a feed founded at size 4, on three bands with room for 1,024.
--   zs, zs'      the values in the buffer, at first and afterwards
--   told         what the plain recount of some bytes gives
--   Fed          the source gave some bytes, the sink took their lines, and the buffer is as they leave it
--   Halfway      the buffer is as the bytes obeyed until then leave it
--   FedAtFour    the answer: founding is never refused
use Rattle.std.specs.Prelude.{◌≡◌, ℕ, List, ◌++◌, ℤ, pos, Result}
use Rattle.feedlaw.specs.Lines.{Told, feed_told, text}
use Rattle.console.specs.declared.ends.Source as source
use Rattle.console.specs.declared.ends.Sink as sink
use Rattle.console.specs.declared.fault.RunFault.{RunFault}
use Rattle.console.specs.Running.{Answers, Begins}

abbrev pub told : List ℤ → List ℕ → Told
told zs bytes = feed_told 3 (pos 1024) 4 zs bytes

pub record Fed (zs : List ℤ) (G K K' : List ℕ → Type 0) (zs' : List ℤ) : Type 0 where
  pub bytes : List ℕ
  pub given : G bytes
  pub took : (w : List ℕ) → K w → K' (w ++ text (told zs bytes).lines)
  pub values : zs' ≡ (told zs bytes).desk.values

pub record Halfway (zs : List ℤ) (G : List ℕ → Type 0) (zs' : List ℤ) : Type 0 where
  pub front : List ℕ
  pub given : Begins G front
  pub values : zs' ≡ (told zs front).desk.values

abbrev pub FedAtFour : {I O E D : Type 0} → List ℤ → source.Ghosts I E → I → I → sink.Ghosts O D → O → O → Result Unit (RunFault E D) → List ℤ → Type 0
FedAtFour zs from i i' to k k' r zs' =
    Answers from i i' to k k' (Fed zs (from.gives i) (to.took k) (to.took k') zs' × to.handed k') (λ _. ⊥) (Halfway zs (from.gives i) zs') r
