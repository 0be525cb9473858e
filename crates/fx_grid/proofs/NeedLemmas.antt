-- What is needed in each track, raised by one child after the other, and the lengths and tracks that it makes.
use Rattle.std.proofs.Common.{◌≡◌, ◌≢◌, ℕ, zero, suc, ◌+◌, ◌<◌, ◌≤◌, Bool, true, false, List, ◌∷◌, length, map, drop, take, get_or, set, refl, sym, ◌∙◌, ap, subst, inl, inr, drop-cons, arith}
use Rattle.std.specs.Prelude.{◌&&◌, ◌==◌, replicate, slice_index}
use Rattle.std.specs.List.{range_with_len}
use Rattle.std.proofs.lemmas.List.FromFn.{length-map-range_with_len}
use Rattle.std.proofs.Math.Nat.{zero-max}
use Rattle.std.proofs.lemmas.Bool.Decides.{eqb_tells}
use Rattle.std.proofs.lemmas.Bool.{ne_eqb}
use Rattle.std.proofs.lemmas.List.{get_or-set_same, get_or-set_other, get_or_default, length-replicate, take-replicate}
use Rattle.fx_base.specs.declared.facts.ChildSize.{ChildSize}
use Rattle.fx_base.specs.declared.facts.Track.{Track}
use Rattle.fx_panes_parts.specs.declared.axes.Axis.{Axis}
use Rattle.fx_panes_parts.specs.declared.axes.ChildAxis.{ChildAxis}
use Rattle.fx_panes_parts.specs.declared.parts.Part.{Part}
use Rattle.fx_panes_parts.specs.Axes.{along, child_axis}
use Rattle.fx_panes.specs.declared.rules.Bound.{Bound}
use Rattle.fx_panes.specs.declared.rules.Bound.TheVariants.{Minimum, Preferred}
use Rattle.fx_grid.specs.declared.needs.Need.{Need}
use Rattle.fx_grid.specs.Tracks.{AreNeeds, alone, alone_grow, is_alone, length_alone, length_at_place, lengths_alone, lengths_of, need_of, no_need, raised, track_at_place, track_count, track_of, tracks_of, length_by, track_at, track_by}

and_false : (b : Bool) → (b && false) ≡ false
and_false true = refl
and_false false = refl

-- a child that isn't alone there raises nothing
pub raised_other : (child : ChildAxis) (k : ℕ) (need : Need) → is_alone k child ≡ false → raised child k need ≡ need
unfolding raised alone alone_grow
raised_other child k need other = rw (other, zero-max need.least, zero-max need.wish, zero-max need.grow) refl

-- a child that covers another number of tracks is alone in none
pub raises_nothing : (child : ChildAxis) (k : ℕ) (need : Need) → child.span ≢ 1 → need ≡ raised child k need
raises_nothing child k need wide = sym (raised_other child k need (rw (ne_eqb child.span 1 wide) refl))

-- a child that is alone in a track raises what is needed there alone
pub raises_one : (child : ChildAxis) (needs : List Need) (made d : Need) (k : ℕ) (other : Need)
    → child.index < length needs → made ≡ raised child child.index (get_or needs child.index d)
    → get_or (set needs child.index made) k other ≡ raised child k (get_or needs k other)
raises_one child needs made d k other within made_is =
    elim (eqb_tells child.index k) [
      | inl same ↦ subst (λ (j : ℕ). get_or (set needs child.index made) j other ≡ raised child j (get_or needs j other)) same.1
          (get_or-set_same needs child.index made other within
          ∙ (made_is ∙ ap (raised child child.index) (get_or_default needs child.index d other within)))
      | inr apart ↦ get_or-set_other needs child.index k made other (λ e. apart.1 (sym e))
          ∙ sym (raised_other child k (get_or needs k other) (rw apart.0 (and_false (child.span == 1))))
    ]

-- one child more in front
pub raised_next : (axis : Axis) (children : List ChildSize) (place next k : ℕ) (d : ChildSize) (child : ChildAxis) (old new : Need)
    → suc next ≡ place → next < length children → child ≡ child_axis axis (get_or children next d)
    → old ≡ need_of (along axis (drop place children)) k → new ≡ raised child k old
    → new ≡ need_of (along axis (drop next children)) k
unfolding raised
raised_next axis children place next k d child old new place_is within child_is old_is new_is =
    rw (new_is, old_is, child_is, drop-cons children next d within, ← place_is) refl

map_range_same : {A : Type 0} (f g : ℕ → A) (a n : ℕ) → ((k : ℕ) → a ≤ k → k < a + n → f k ≡ g k)
    → map f (range_with_len a n) ≡ map g (range_with_len a n)
map_range_same f g a zero same = refl
map_range_same {A} f g a (suc n) same =
    ap (λ (x : A). x ∷ map f (range_with_len (a + 1) n)) (same a (omega arith) (omega arith))
    ∙ ap (λ (xs : List A). g a ∷ xs)
    (map_range_same f g (a + 1) n (λ k low high. same k (omega (arith, low)) (omega (arith, high))))

-- lengths by a list of needs are those by the children
pub lengths_alone_are : (bound : Bound) (given : List Track) (children : List ChildAxis) (count : ℕ)
    (needs : List Need) (lengths : List ℕ)
    → count ≡ track_count given children → AreNeeds count children needs
    → lengths ≡ map (length_at_place bound given needs) (range_with_len 0 (length needs))
    → lengths ≡ lengths_alone bound given children
lengths_alone_are bound given children count needs lengths count_is are lengths_are =
    rw (lengths_are, are.each, count_is)
    (map_range_same (length_at_place bound given needs) (length_alone bound given children) 0 (track_count given children)
    (λ k low high. ap (length_by bound (track_at given k)) (are.needed k no_need (omega (arith, are.each, count_is, high)))))

-- and so are the tracks
pub tracks_are : (gap : ℕ) (given : List Track) (children : List ChildAxis) (count : ℕ)
    (needs : List Need) (leasts wishes : List ℕ) (tracks : List Part)
    → count ≡ track_count given children → AreNeeds count children needs
    → leasts ≡ lengths_of Minimum gap given children → wishes ≡ lengths_of Preferred gap given children
    → tracks ≡ map (track_at_place given needs leasts wishes) (range_with_len 0 (length needs))
    → tracks ≡ tracks_of gap given children
tracks_are gap given children count needs leasts wishes tracks count_is are leasts_are wishes_are tracks_is =
    rw (tracks_is, leasts_are, wishes_are, are.each, count_is)
    (map_range_same
    (track_at_place given needs (lengths_of Minimum gap given children) (lengths_of Preferred gap given children))
    (track_of given children (lengths_of Minimum gap given children) (lengths_of Preferred gap given children))
    0 (track_count given children)
    (λ k low high. ap (λ (need : Need). track_by (track_at given k) need
    (slice_index (lengths_of Minimum gap given children) k) (slice_index (lengths_of Preferred gap given children) k))
    (are.needed k no_need (omega (arith, are.each, count_is, high)))))

-- there is a track for each that is counted
pub length-tracks_of : (gap : ℕ) (given : List Track) (children : List ChildAxis)
    → length (tracks_of gap given children) ≡ track_count given children
length-tracks_of gap given children =
    length-map-range_with_len
    (track_of given children (lengths_of Minimum gap given children) (lengths_of Preferred gap given children)) 0 _

-- a part of the tracks that need nothing
pub length_front : (room n : ℕ) → n ≤ room → length (take n (replicate room no_need)) ≡ n
length_front room n few = ap length (take-replicate n room no_need few) ∙ length-replicate n no_need

pub fresh_needs : (room n : ℕ) → n ≤ room
    → take n (replicate room no_need) ≡ replicate (length (take n (replicate room no_need))) no_need
fresh_needs room n few = rw (take-replicate n room no_need few, length-replicate) refl
