use Rattle.std.proofs.Common.{ap, ◌∙◌}
use Rattle.std.specs.Box.{with_value}
use Rattle.pile.proofs.boxed.BoxedStore.write.Goals as goal

pub returns-clause-refused : goal.returns-clause-refused
returns-clause-refused g c = λ f e. ap (λ v. record { store = with_value c.args.self.now.store v }) (c.write.ensures.refused f e ∙ c.deref_mut.ensures.value)
