-- What is said of a feed that is not run to its end.
--   i, o    what the errors of its source and of its sink say
use Rattle.std.specs.Prelude.{ℕ, List, Some, Option, codes}
use Rattle.warehouse.specs.Words.{refusal_words}
use Rattle.console.specs.declared.fault.RunFault.{RunFault}
use Rattle.console.specs.declared.fault.RunFault.TheVariants.{Founding, Input, Output, Long}

abbrev pub fault_text : {I O : Type 0} → (I → Option (List ℕ)) → (O → Option (List ℕ)) → RunFault I O → Option (List ℕ)
fault_text i o (Founding e) = Some (refusal_words e)
fault_text i o (Input e) = i e
fault_text i o (Output e) = o e
fault_text i o Long = Some (codes "the feed is longer than can be counted")
