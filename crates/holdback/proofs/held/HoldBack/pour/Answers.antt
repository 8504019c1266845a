use Rattle.std.proofs.Common.{◌≡◌, ◌<◌, List, length, refl, ap, ◌∙◌, subst, sym, arith, w64, SFits, rules, Ok}
use Rattle.std.proofs.lemmas.List.{get_or-take}
use Rattle.std.proofs.lemmas.Int.{to_z-of_z}
use Rattle.store.specs.declared.entry.Entry.{Entry}
use Rattle.store.specs.Contents.{in_use}
use Rattle.store.specs.Meaning.{Writes}
use Rattle.store.specs.Table.{entry_at}
use Rattle.store.proofs.Tidy.{tidy}
use Rattle.store.proofs.Writing.{written_take}
use Rattle.holdback.specs.Layer.{Sinks}
use Rattle.holdback.proofs.Poured.{pour_none, pour_step, sinks}
use Rattle.holdback.proofs.held.HoldBack.pour.Goals as goal

pub loop-entry-init : goal.loop-entry-init
loop-entry-init g c = (pour_none c.args.self.now.held.entries (g.S.Store.means c.args.self.now.below), refl)

pub loop-entry-preserved : goal.loop-entry-preserved
loop-entry-preserved g c =
    let t = c.args.self.now.held in
    let i = c.loop-entry.entry-index in
    let m = g.S.Store.means in
    let p = g.S.Store.puts in
    let s = c.loop-entry.below in
    let u = c.write.new.self in
    let listed = c.entries-entry-items.ensures in
    let l : i < t.used = omega (arith, listed.len) in
    let many : i < length (in_use t) = omega (arith, listed.len, ap length listed.all) in
    let used : entry_at (in_use t) i ≡ entry_at t.entries i = get_or-take t.used t.entries i _ l in
    let same : entry_at c.entries-entry-items.result.now i ≡ entry_at t.entries i = ap (λ (es : List Entry). entry_at es i) listed.all ∙ used in
    let f : SFits w64 (entry_at c.entries-entry-items.result.now i).value = search rules in
    let w = subst (λ (e : Entry). Writes (m s) e.cell e.value c.write.result (m u)) same (simp to_z-of_z at c.write.ensures.writes) in
    let put = subst (λ (e : Entry). c.write.result ≡ Ok tt → p s e.cell e.value u) same (simp to_z-of_z at c.write.ensures.puts) in
    let sunk = sinks (m c.args.self.now.below) t.entries t.used (tidy t) c.requires m p s u i c.write.result l c.loop-entry.invariant.0 w put c.write.ensures.refused in (
      pour_step (m c.args.self.now.below) t.entries t.used (tidy t) c.requires (m s) (m u) i c.write.result l c.loop-entry.invariant.0 w,
      written_take (Sinks m p) (in_use t) i _ s u many c.loop-entry.invariant.1 (subst (λ (e : Entry). Sinks m p s e.cell e.value u) (sym used) sunk),
    )
