use Rattle.std.proofs.Common.{◌≡◌, true, sym, rules}
use Rattle.gymlink.specs.Shown.{no_values}
use Rattle.gymlink.proofs.Whole.{shown_whole}
use Rattle.gymlink.proofs.shown.Goals as goal

pub returns : goal.returns
returns c =
    let played = c.play-played in
    let values : c.deref_mut.result.now ≡ no_values = search rules in
    sym (shown_whole _ c.pile.result c.pile.ensures.bands c.pile.ensures.room c.deref_mut.result.now values c.args.captured.now (record { took = λ p w. w ≡ p.bytes.items; handed = λ _. Unit {0}; stuck = λ p. p.is_full ≡ true })
    c.new-page.result played.new.sink (sym c.new-page.ensures.empty) played.result.0 played.new.buffer played.result.1 c.in_ok-played.was played.ensures)
