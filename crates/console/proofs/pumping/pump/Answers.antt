use Rattle.std.proofs.Common.{◌+◌, ◌^◌, ◌<◌, ◌≤◌, ◌++◌, length, None, sym, refl, ap, ◌∙◌, subst, append_assoc, arith, rules, length-append, length-drop}
use Rattle.console.specs.Playing.{state}
use Rattle.console.proofs.Pieces.{pumped_none, read_more, stops, stops_after, stuck_at, played_on, drained_last, drained_over, piece_played}
use Rattle.console.proofs.pumping.pump.Goals as goal

pub pieces-init : goal.pieces-init
pieces-init g c =
    record {
      few = search rules;
      fits = search rules;
      pumped = pumped_none g.S.Store (state c.args.warehouse.now None c.args.buffer.now) _ _ c.new-window.result c.new-window.ensures;
    }

pub returns-then-is_none : goal.returns-then-is_none
returns-then-is_none g c =
    let p = read_more c.pieces.invariant.pumped c.in-Ok.ensures in
    let long : 2 ^ 64 ≤ c.pieces.offset + length c.bytes-bytes.result.now = search rules in
    let held = c.fill.new.self in (
      record {
        bytes = p.front ++ held;
        given = λ rest x. subst (g.I.Source.gives c.args.source.now) (sym (append_assoc p.front held rest)) (p.given rest x);
        many = omega (arith, p.many, ap length c.bytes-bytes.ensures, long, length-append p.front held);
      },
      stops refl p,
    )

pub returns-in-Err : goal.returns-in-Err
returns-in-Err g c = (c.in-Err.ensures, stops refl c.pieces.invariant.pumped)

pub returns-in-Err-played : goal.returns-in-Err-played
returns-in-Err-played g c =
    stuck_at g.O.Sink c.args.sink.now c.pieces.sink c.play-next.new.sink (state c.play-next.new.warehouse c.play-next.result.0 c.play-next.new.buffer) c.play-next.result.1 c.pieces.invariant.pumped c.in-Ok.ensures c.bytes-bytes.ensures
    c.play-next.ensures c.in-Err-played.error (search rules) refl

pub returns-in-Err-flush : goal.returns-in-Err-flush
returns-in-Err-flush g c =
    let used = c.in-Ok-Some.used in
    let q =
    piece_played g.O.Sink c.args.sink.now c.pieces.sink c.play-next.new.sink (state c.play-next.new.warehouse c.play-next.result.0 c.play-next.new.buffer) c.play-next.result.1 c.pieces.invariant.pumped c.in-Ok.ensures c.bytes-bytes.ensures
    c.play-next.ensures used (search rules) c.if-last.false in
    (search rules, stops_after refl (read_more c.pieces.invariant.pumped c.in-Ok.ensures) c.in-Ok.ensures.some.1 q.went)

pub returns-in-Ok-None : goal.returns-in-Ok-None
returns-in-Ok-None g c =
    drained_over g.O.Sink c.args.sink.now c.pieces.sink c.play-next.new.sink (state c.play-next.new.warehouse c.play-next.result.0 c.play-next.new.buffer) c.play-next.result.1 c.pieces.invariant.pumped c.in-Ok.ensures c.bytes-bytes.ensures
    c.play-next.ensures (search rules)

pub returns-then-last : goal.returns-then-last
returns-then-last g c =
    drained_last g.O.Sink c.args.sink.now c.pieces.sink c.play-next.new.sink (state c.play-next.new.warehouse c.play-next.result.0 c.play-next.new.buffer) c.play-next.result.1 c.pieces.invariant.pumped c.in-Ok.ensures c.bytes-bytes.ensures
    c.play-next.ensures c.in-Ok-Some.used (search rules) c.if-last.true

pub pieces-preserved : goal.pieces-preserved
pieces-preserved g c =
    let window = c.fill.new.self in
    let used = c.in-Ok-Some.used in
    let u = state c.play-next.new.warehouse c.play-next.result.0 c.play-next.new.buffer in
    let q =
    piece_played g.O.Sink c.args.sink.now c.pieces.sink c.play-next.new.sink u c.play-next.result.1 c.pieces.invariant.pumped c.in-Ok.ensures c.bytes-bytes.ensures c.play-next.ensures used (search rules) c.if-last.false in
    let left = ap length c.drop_front.ensures ∙ length-drop used window in
    let fits : c.pieces.offset + length c.bytes-bytes.result.now < 2 ^ 64 = search rules in
    record {
      few = omega (arith, left, q.few);
      fits = omega (arith, left, q.went.within, fits, ap length c.bytes-bytes.ensures);
      pumped = played_on (read_more c.pieces.invariant.pumped c.in-Ok.ensures) u (g.O.Sink.took c.play-next.new.sink) (g.O.Sink.took c.flush.new.self) c.drop_front.new.self c.in-Ok.ensures.some.0 c.drop_front.ensures c.in-Ok.ensures.some.1 q.went c.in_default.ensures.0;
    }
