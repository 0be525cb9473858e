use Rattle.std.proofs.Common.{◌≡◌, ◌∙◌, ◌≤◌, ◌+◌, ◌++◌, ℕ, Option, ap, arith, length, refl, subst, sym, vec_len}
use Rattle.std.specs.Option.{option_map}
use Rattle.fx_base.specs.declared.work.Work.{Work}
use Rattle.fx_frame_text.specs.Frames.{frame_text}
use Rattle.fx_plain_frames.specs.Games.{Game}
use Rattle.fx_plain_frames.specs.Pulses.{image_in}
use Rattle.fx_plain_steps.specs.Courses.{Course}
use Rattle.fx_plain_work.specs.Works.{Counted, IsPulseWork, counted}
use Rattle.fx_play_times.specs.Shown.{clock_of}
use Rattle.fx_play_steps.specs.Traces.{course_of}
use Rattle.fx_pulse.specs.Rendering.{last_frame}
use Rattle.fx_pulse_model.specs.Frames.{Framed}
use Rattle.fx_play_frames.specs.Drawn.{pulsed_as}
use Rattle.fx_play_frames.specs.Games.{game_of, sight_of}
use Rattle.fx_play_frames.specs.Takings.{frame_totals, image_last}
use Rattle.fx_play_frames.proofs.RestLemmas.{settled_quiet}
use Rattle.fx_play_frames.proofs.WorkLemmas.{pulse_work}
use Rattle.fx_play_frames.proofs.game.Game.pulse.Goals as goal

pub returns-then-self-clause-shown : goal.returns-then-self-clause-shown
returns-then-self-clause-shown g c = λ form.
    let made = c.in_ok-pulsed.pulsed in
    let drawn = c.in_ok-pulsed.ensures.drawn in
    let next = c.next_frame.new.self in
    let now = next.renderer in
    let before = option_map image_in (last_frame c.args.self.now.renderer) in
    let course = course_of next.stage c.clear.new.self in
    let few : c.next_frame.new.work.evaluated ≤ c.args.work.now.evaluated + drawn.cost = drawn.few in
    record {
      cost = drawn.cost + 0;
      done = record {
        pulsed = pulsed_as now made;
        drawn = record {
          world = next.stage;
          clock = clock_of next.clock;
          frames = next.frames + 1;
          last = last_frame now;
        };
        own = drawn.cost;
        made = record {
          drawn = drawn.done;
          count = ap (λ (n : ℕ). n + 1) c.in_ok-pulsed.ensures.frames;
          clock = ap clock_of c.in_ok-pulsed.ensures.clock;
        };
        course = course;
        further = 0;
        settled = settled_quiet c.args.number next.stage c.clear.new.self made.told.notices c.clear.ensures
            (c.in_ok-pulsed.ensures.quiet c.if-self.true);
        after = refl;
        told_so =
            ap (λ (n : ℕ). record {
              text = frame_text form (next.frames + 1) before made.frame.damage.items (image_last (last_frame now))
                  ++ c.clear.new.self.text.items;
              totals = frame_totals (last_frame now) (record { damage = made.frame.damage; notices = n });
            }) (sym (ap (λ (l : Course). length l.heard) (c.clear.ensures next.stage)))
            ∙ ap (λ (last : Option Framed). record {
              text = frame_text form (next.frames + 1) before made.frame.damage.items (image_last last)
                  ++ c.clear.new.self.text.items;
              totals = frame_totals last
                  (record { damage = made.frame.damage; notices = length c.clear.new.self.heard.items });
            }) drawn.done.last_one;
        sum = refl;
      };
      few = omega (arith, few);
    }

pub returns-clause-shown : goal.returns-clause-shown
returns-clause-shown g c = λ form.
    let made = c.in_ok-pulsed.pulsed in
    let drawn = c.in_ok-pulsed.ensures.drawn in
    let next = c.next_frame.new.self in
    let now = next.renderer in
    let before = option_map image_in (last_frame c.args.self.now.renderer) in
    let course = course_of c.tell.new.stage c.tell.new.trace in
    let heard = c.tell.new.trace.heard in
    let long : vec_len heard ≡ length heard.items = omega (arith, heard.ok.0) in
    let settled = c.in_ok-tell.ensures.settled in
    let first_few : c.next_frame.new.work.evaluated ≤ c.args.work.now.evaluated + drawn.cost = drawn.few in
    let rest_few : c.tell.new.work.evaluated ≤ c.next_frame.new.work.evaluated + settled.cost = settled.few in
    record {
      cost = drawn.cost + settled.cost;
      done = record {
        pulsed = pulsed_as now made;
        drawn = record {
          world = next.stage;
          clock = clock_of next.clock;
          frames = next.frames + 1;
          last = last_frame now;
        };
        own = drawn.cost;
        made = record {
          drawn = drawn.done;
          count = ap (λ (n : ℕ). n + 1) c.in_ok-pulsed.ensures.frames;
          clock = ap clock_of c.in_ok-pulsed.ensures.clock;
        };
        course = course;
        further = settled.cost;
        settled = settled.done;
        after = refl;
        told_so =
            ap (λ (n : ℕ). record {
              text = frame_text form (next.frames + 1) before made.frame.damage.items (image_last (last_frame now))
                  ++ c.tell.new.trace.text.items;
              totals = frame_totals (last_frame now) (record { damage = made.frame.damage; notices = n });
            }) (c.len.ensures ∙ long)
            ∙ ap (λ (last : Option Framed). record {
              text = frame_text form (next.frames + 1) before made.frame.damage.items (image_last last)
                  ++ c.tell.new.trace.text.items;
              totals = frame_totals last
                  (record { damage = made.frame.damage; notices = length c.tell.new.trace.heard.items });
            }) drawn.done.last_one;
        sum = refl;
      };
      few = omega (arith, first_few, rest_few);
    }

pub returns-then-self-clause-work : goal.returns-then-self-clause-work
returns-then-self-clause-work g c =
    let count : Work g.row.L.Denot → Counted = λ w. counted w.styled w.laid w.painted in
    let next = c.next_frame.new.self in
    let now : Game = record {
      world = next.stage;
      clock = clock_of next.clock;
      frames = next.frames + 1;
      last = last_frame next.renderer;
    } in
    pulse_work (game_of c.args.self.now) now next.stage c.args.self.now.renderer next.renderer c.in_ok-pulsed.pulsed
    (count c.args.work.now) (count c.next_frame.new.work) c.in_ok-pulsed.ensures.drawn.cost refl refl
    c.in_ok-pulsed.ensures.drawn.done c.in_ok-pulsed.ensures.work

pub returns-clause-work : goal.returns-clause-work
returns-clause-work g c =
    let count : Work g.row.L.Denot → Counted = λ w. counted w.styled w.laid w.painted in
    let next = c.next_frame.new.self in
    let before = game_of c.args.self.now in
    let now : Game = record {
      world = c.tell.new.stage;
      clock = clock_of next.clock;
      frames = next.frames + 1;
      last = last_frame next.renderer;
    } in
    subst (λ (n : Counted). IsPulseWork before now (sight_of c.args.self.now)
    (record { scene = next.renderer.kept.last; layout = next.renderer.kept.layout })
    (count c.args.work.now) n) (sym (ap count c.in_ok-tell.ensures.others))
    (pulse_work before now next.stage c.args.self.now.renderer next.renderer c.in_ok-pulsed.pulsed
    (count c.args.work.now) (count c.next_frame.new.work) c.in_ok-pulsed.ensures.drawn.cost refl refl
    c.in_ok-pulsed.ensures.drawn.done c.in_ok-pulsed.ensures.work)
