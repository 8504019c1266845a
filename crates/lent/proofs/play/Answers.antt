use Rattle.std.proofs.Common.{rules}
use Rattle.flat.specs.FlatMeaning.{flat_means}
use Rattle.lent.proofs.Keeping.{holds}
use Rattle.lent.proofs.play.Goals as goal

pub returns : goal.returns
returns c =
    let s = c.new-store.result in
    let t = c.play_on.new.store in
    let kept = c.play_on.ensures.kept in
    record {
      before = flat_means s;
      after = flat_means t;
      made = c.new-store.ensures.made;
      played = c.play_on.ensures.played;
      holds = holds _ _ s t c.new-store.ensures.same kept (search (rules, kept.loan));
    }
