use Rattle.std.proofs.Common.{◌++◌, ◌∷◌, [], ap, ◌∙◌, sym, cond, append-nil, ℕ, Vec, Global}
use Rattle.std.specs.List.{filter, range_with_len}
use Rattle.fx_layout_sweeps.specs.Marks.{flag_in}
use Rattle.fx_pulse_touched.proofs.PlaceLemmas.{range_kept}
use Rattle.fx_pulse_touched.proofs.marks.listed_places.Goals as goal
use Rattle.fx_pulse_touched.proofs.marks.listed_places.Goals.{then-mark+in_ok-push, else-mark}

pub loop-place-preserved : goal.loop-place-preserved
loop-place-preserved c =
    let n = c.loop-place.place in
    let test = flag_in c.args.marks.now in
    elim c.if-mark.branch [
      | then-mark+in_ok-push w ↦ ap (λ (v : Vec ℕ Global). v.items) w.places-is
          ∙ (w.in_ok-push.ensures.items
          ∙ (ap (λ l. l ++ n ∷ []) c.loop-place.invariant
          ∙ (ap (λ b. filter test (range_with_len 0 n) ++ cond b (n ∷ []) []) (sym w.if-mark.true)
          ∙ sym (range_kept test n))))
      | else-mark w ↦ ap (λ (v : Vec ℕ Global). v.items) w.places-is
          ∙ (c.loop-place.invariant
          ∙ (sym (append-nil (filter test (range_with_len 0 n)))
          ∙ (ap (λ b. filter test (range_with_len 0 n) ++ cond b (n ∷ []) []) (sym w.if-mark.false)
          ∙ sym (range_kept test n))))
    ]
