-- A piece that is read is fed and is counted (`led_next`); a read that gives none leaves the source at its end (`led_end`).
use Rattle.std.proofs.Common.{◌-◌, ◌∙◌, ap, refl, rules}
use Rattle.bench.proofs.AnswerLaws.{led_none, led_next, led_end}
use Rattle.bench.proofs.read_input.Goals as goal

pub loop-init : goal.loop-init
loop-init g c = record { same_length = refl; piece = c.byte_room-piece.ensures; led = led_none _ _ _ c.new.ensures }

pub returns-in-Ok-eq0-clause-led : goal.returns-in-Ok-eq0-clause-led
returns-in-Ok-eq0-clause-led g c = led_end _ _ _ _ _ _ _ _ _ c.loop.invariant.led c.in-Ok-eq0.field-0-test c.in-Ok-eq0.ensures.bytes.0

pub loop-preserved : goal.loop-preserved
loop-preserved g c = record {
  same_length = search rules;
  piece = search rules;
  led = led_next _ _ _ _ _ _ _ _ _ _ _ c.loop.invariant.led c.in-Ok.ensures.bytes.0 c.feed-input.ensures
      (c.saturating_sub.ensures ∙ ap (c.loop.input.left -◌) c.in-Ok.ensures.bound.1);
}
