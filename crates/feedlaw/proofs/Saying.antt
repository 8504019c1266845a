-- An answer of the warehouse, by the checks, and the line that is printed of it.
use Rattle.std.proofs.Common.{◌≡◌, ℕ, Some, None, Ok, Err, Option, Result, ap}
use Rattle.warehouse.specs.declared.fault.Asked.{Asked}
use Rattle.warehouse.specs.declared.fault.Fault.{Fault}
use Rattle.warehouse.specs.declared.fault.Refusal.{Refusal}
use Rattle.warehouse.specs.Faults.{fault_number}
use Rattle.loads.specs.declared.open.RefusedLoad.{RefusedLoad}
use Rattle.wire.specs.declared.line.Line.{Line}
use Rattle.wire.specs.declared.line.Line.TheVariants as line
use Rattle.feed.specs.Step.{told, counted, after, on}
use Rattle.agreement.specs.Call.{Answer, wrote, grown}
use Rattle.agreement.specs.Call as call
use Rattle.agreement.specs.Reply.{or_refused, written_reply, growth_reply, finish_reply}
use Rattle.feedlaw.specs.Turns.{checked}

-- a refusal by the checks
fault_same : (e : Refusal) (f : Fault) (asked : Asked) → call.refused e ≡ call.refused (record { fault = f; asked = asked }) → e.fault ≡ f
fault_same e f asked q = let r : e ≡ record { fault = f; asked = asked } = cc in ap (λ x. x.fault) r

module _ (o w : ℕ) (asked : Asked) (n : ℕ) where
  pub written_line : (say : ℕ → Line) (q : Result ℕ Refusal) (f : Option Fault) → written_reply q ≡ or_refused f asked (wrote n) → after (told say o q) w ≡ on (checked f o (Some (say n))) w
  written_line say (Ok k) None e = let q : k ≡ n = cc in ap (λ x. on (Some (say x)) w) q
  written_line say (Ok k) (Some f) e = cc
  written_line say (Err r) None e = cc
  written_line say (Err r) (Some f) e = ap (λ x. on (Some (line.Refused (fault_number x) o)) w) (fault_same r f asked e)

  pub grown_line : (q : Result ℕ Refusal) (f : Option Fault) → growth_reply q ≡ or_refused f asked (grown n) → after (told line.Grown o q) w ≡ on (checked f o (Some (line.Grown n))) w
  grown_line (Ok k) None e = let q : k ≡ n = cc in ap (λ x. on (Some (line.Grown x)) w) q
  grown_line (Ok k) (Some f) e = cc
  grown_line (Err r) None e = cc
  grown_line (Err r) (Some f) e = ap (λ x. on (Some (line.Refused (fault_number x) o)) w) (fault_same r f asked e)

  pub finished_line : (q : Result ℕ RefusedLoad) (f : Option Fault) → finish_reply q ≡ or_refused f asked (wrote n) → after (counted o q) w ≡ on (checked f o (Some (line.Finished n))) w
  finished_line (Ok k) None e = let q : k ≡ n = cc in ap (λ x. on (Some (line.Finished x)) w) q
  finished_line (Ok k) (Some f) e = cc
  finished_line (Err r) None e = cc
  finished_line (Err r) (Some f) e = ap (λ x. on (Some (line.Refused (fault_number x) o)) w) (fault_same r.refusal f asked e)
