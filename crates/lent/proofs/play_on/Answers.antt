use Rattle.std.proofs.Common.{◌≡◌, subst, ap, ◌∙◌}
use Rattle.flat.specs.FlatMeaning.{flat_means}
use Rattle.warehouse.specs.Founding.{cut}
use Rattle.warehouse.specs.View.{known}
use Rattle.warehouse.proofs.Marks.{no_mark}
use Rattle.loads.specs.Opening.{Finishes}
use Rattle.lent.proofs.Keeping.{kept_added, kept_grown, kept_on, kept_same, taken}
use Rattle.lent.proofs.play_on.Goals as goal

pub returns : goal.returns
returns c =
    let w0 = c.take_over-warehouse.result in
    let w1 = c.finish-loaded.new.warehouse in
    let w2 = c.grow-grown.new.warehouse in
    let on : w0.store ≡ c.args.store.now = c.take_over-warehouse.ensures.store ∙ c.replace.ensures.value in
    let size = c.take_over-warehouse.ensures.size ∙ ap (λ s. cut (flat_means s) c.args.size) c.replace.ensures.value in
    let mark = c.take_over-warehouse.ensures.mark ∙ no_mark _ in
    let whole = kept_on _ _ _ (kept_added w0 w1 _ _ _ _ c.finish-loaded.ensures.whole) (kept_grown w1 w2 _ c.grow-grown.ensures.whole) in
    let rest = kept_same w2.store _ (c.close.ensures.store ∙ c.settle.ensures.store) in
    record {
      kept = kept_on _ _ _ (kept_same _ _ on) (kept_on _ _ _ whole rest);
      played = record {
        loaded = known flat_means w1;
        grown = known flat_means w2;
        settled = flat_means c.settle.new.self.store;
        load = subst (λ v. Finishes c.args.load v c.args.buffer.now c.finish-loaded.result (known flat_means w1)) (taken _ w0 _ on size mark) c.finish-loaded.ensures.finishes;
        growth = c.grow-grown.ensures.growth;
        settle = c.settle.ensures.settles;
        close = c.close.ensures.settles;
      };
    }
