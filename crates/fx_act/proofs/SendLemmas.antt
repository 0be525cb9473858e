-- What an event calls at a node, and whether it is sent at all.
use Rattle.std.proofs.Common.{◌≡◌, ◌&&◌, Bool, true, false, cond, List, [], ◌++◌, ◌∙◌, ℕ, subst, sym, ap, length, take, append-nil, arith}
use Rattle.std.proofs.Math.ListN.{drop_of_length-le}
use Rattle.std.proofs.Math.Seq.{take-length}
use Rattle.std.specs.List.{refill}
use Rattle.fx_base.specs.declared.keys.NodeKey.{NodeKey}
use Rattle.fx_events.specs.Events.{is_same_type}
use Rattle.fx_events.specs.Handlers.{calls_of}
use Rattle.fx_events.specs.Routes.{route_of}
use Rattle.fx_events.specs.declared.kinds.EventKind.{EventKind}
use Rattle.fx_events.specs.declared.kinds.EventKind.TheVariants.{Action}
use Rattle.fx_events.specs.declared.kinds.Phase.{Phase}
use Rattle.fx_event_lines.specs.declared.events.Event.{Event}
use Rattle.fx_plain_dispatch.specs.Costs.{IsDoneWithin}
use Rattle.fx_plain_dispatch.specs.Running.{AreCalled, no_call}
use Rattle.fx_plain_dispatch.specs.Sending.{ArePassed, Pass, calls_at, is_left_out, is_passed_over, no_pass, passes_of, sent_off, there_and_back}
use Rattle.fx_plain_steps.specs.Courses.{Course}
use Rattle.fx_act.proofs.RunLemmas.{at_no_cost}

module _ (on : EventKind) (phase : Phase) (key : NodeKey) (course : Course) where
  calls_if : Bool → List (List ℕ)
  calls_if over = cond over [] (calls_of course.world.graph.handlers key on phase)

  pub nothing_called : (count : ℕ) → true ≡ is_passed_over key course
      → IsDoneWithin (AreCalled (calls_at on (phase, key) course) course course) count count
  unfolding calls_if
  nothing_called count over =
      subst (λ (b : Bool). IsDoneWithin (AreCalled (calls_if b) course course) count count) over
      (at_no_cost (AreCalled [] course course) count (no_call course))

  pub something_called : (now : Course) (old new : ℕ) → false ≡ is_passed_over key course
      → IsDoneWithin (AreCalled (calls_of course.world.graph.handlers key on phase) course now) old new
      → IsDoneWithin (AreCalled (calls_at on (phase, key) course) course now) old new
  unfolding calls_if
  something_called now old new over called =
      subst (λ (b : Bool). IsDoneWithin (AreCalled (calls_if b) course now) old new) over called

module _ (event : Event) (course : Course) where
  passes_if : Bool → List Pass
  passes_if out =
      cond out [] (there_and_back (route_of course.world.graph.tree.nodes event.on event.target))

  pub nothing_sent : (count : ℕ) (out : Bool) → out ≡ is_left_out event course → out ≡ true
      → IsDoneWithin (ArePassed event.on (passes_of event course) (sent_off event course) (record course { consumed = out })) count count
  unfolding passes_if
  nothing_sent count out is left =
      let sent : ArePassed event.on (passes_if true) (record course { consumed = out }) (record course { consumed = out }) 0 =
      no_pass (record course { consumed = out }) in
      at_no_cost (ArePassed event.on (passes_of event course) (sent_off event course) (record course { consumed = out })) count
      (subst (λ (b : Bool). ArePassed event.on (passes_if b) (record course { consumed = b }) (record course { consumed = out }) 0) is
      (subst (λ (b : Bool). ArePassed event.on (passes_if b) (record course { consumed = out }) (record course { consumed = out }) 0) (sym left) sent))

  pub something_sent : (out : Bool) (now : Course) (old new : ℕ) → out ≡ is_left_out event course → out ≡ false
      → IsDoneWithin (ArePassed event.on (there_and_back (route_of course.world.graph.tree.nodes event.on event.target))
      (record course { consumed = out }) now) old new
      → IsDoneWithin (ArePassed event.on (passes_of event course) (sent_off event course) now) old new
  unfolding passes_if
  something_sent out now old new is left passed =
      subst (λ (b : Bool). IsDoneWithin (ArePassed event.on (passes_if b) (record course { consumed = b }) now) old new) is
      (subst (λ (b : Bool). IsDoneWithin (ArePassed event.on (passes_if b) (record course { consumed = out }) now) old new) (sym left) passed)

-- a list of the same length takes the whole place of another
pub refilled : {X : Type 0} (xs ws : List X) → length ws ≡ length xs → refill (length xs) xs ws ≡ ws
refilled xs ws same =
    ap (λ rest. take (length xs) (ws ++ rest)) (drop_of_length-le xs (omega (arith, same)))
    ∙ ap (take (length xs)) (append-nil ws) ∙ ap (λ n. take n ws) (sym same) ∙ take-length ws
