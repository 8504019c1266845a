use Rattle.haar.proofs.Numbers.{one_coefficient, inside_below}
use Rattle.haar.proofs.Haar.{coefficient_of}
use Rattle.haar.proofs.laws.numbered_stands.Goals as goal

pub returns : goal.returns
returns c = λ T n a h. ((λ s s'. one_coefficient T n s s' a h), (λ s. inside_below T n s a h), (λ c. coefficient_of T n c h))
