use Rattle.std.proofs.Common.{◌<◌, sym, subst, w64, SFits, rules}
use Rattle.haar.specs.Tiles.{cell_count}
use Rattle.loads.proofs.Partly.{cell_in, cell_open, sum_fits, new_is, partly_step}
use Rattle.loads.proofs.Writes.{wrote_step}
use Rattle.loads.proofs.chunk.WritingPass.take.Goals as goal

pub number_in-number-requires : goal.number_in-number-requires
number_in-number-requires g c =
    let (r, d, x, passed, takes) = c.requires in
    subst (λ b. c.args.cell < cell_count b) (sym passed.1.0.bands) (cell_in _ _ _ _ _ r.some r.held _ _ _ passed.1.0 takes.coefficient takes.meets takes.numbered)

pub overflow_add-number : goal.overflow_add-number
overflow_add-number g c =
    let (r, d, x, passed, takes) = c.requires in
    let f : SFits w64 c.number_in-number.result = search rules in
    sum_fits _ _ _ _ _ r.some r.held _ _ _ passed.1.0 takes.coefficient takes.meets takes.numbered _ _ f c.ranges.share c.number_in-number.ensures takes.is

pub put-requires-clause-inside : goal.put-requires-clause-inside
put-requires-clause-inside g c =
    let (r, d, x, passed, takes) = c.requires in
    subst (λ b. c.args.cell < cell_count b) (sym passed.1.0.bands) (cell_in _ _ _ _ _ r.some r.held _ _ _ passed.1.0 takes.coefficient takes.meets takes.numbered)

pub put-requires-clause-free : goal.put-requires-clause-free
put-requires-clause-free g c =
    let (r, d, x, passed, takes) = c.requires in
    let f : SFits w64 c.number_in-number.result = search rules in
    cell_open _ _ _ _ _ r.some r.held _ _ _ passed.1.0 takes.coefficient takes.meets takes.numbered _
    (new_is _ _ _ _ _ r.some r.held _ _ _ passed.1.0 takes.coefficient takes.meets takes.numbered _ _ f c.ranges.share c.number_in-number.ensures takes.is)

pub returns : goal.returns
returns g c = λ r d x passed takes.
    let f : SFits w64 c.number_in-number.result = search rules in
    let e = new_is _ _ _ _ _ r.some r.held _ _ _ passed.1.0 takes.coefficient takes.meets takes.numbered _ _ f c.ranges.share c.number_in-number.ensures takes.is in (
      passed.0,
      (
        partly_step _ _ _ _ _ r.some r.held _ _ _ passed.1.0 takes.coefficient takes.meets takes.numbered _ _ e c.put.ensures.put,
        wrote_step g.S.Store.puts _ _ _ _ _ _ _ _ _ _ takes.coefficient _ passed.1.1 takes.meets takes.numbered e c.put.ensures.puts,
      ),
    )
