-- Lengths and places along both axes make an update, and what it costs.
use Rattle.std.proofs.Common.{refl, sym, subst, ap, ◌∙◌, ◌≡◌, ℕ, ◌+◌, ◌*◌, ◌<◌, ◌≤◌, Bool, true, false, ◌||◌, not, nat_eq, List, [], Option, length, arith}
use Rattle.std.proofs.lemmas.Bool.{true≢false}
use Rattle.std.proofs.lemmas.List.{length-map}
use Rattle.fx_kinds.specs.declared.facts.BoxFacts.{BoxFacts}
use Rattle.fx_look.specs.declared.looks.Look.{Look}
use Rattle.fx_panes_parts.specs.declared.axes.Axis.TheVariants.{Across, Down}
use Rattle.fx_layout_sweeps.specs.Nodes.{children_lists, extent_at, keys, parents, span_at}
use Rattle.fx_layout_sweeps.specs.Marks.{flag_in}
use Rattle.fx_layout_sweeps.specs.Sweeps.{AreMeasured, ArePlaced, is_worked, kept_in, last_in, old_at, tally}
use Rattle.fx_layout_sweeps.proofs.Tallies.{tally_same}
use Rattle.fx_layout.specs.Updates.{AreRects, AreTold, IsUpdate, Kept, from_corner, is_listed, is_resized, is_wide_anew, laid_bound, laid_count, lengths_in, old_place, old_places, rect_at, resized, root_length, window_height, window_width}
use Rattle.fx_layout.proofs.Counts.{few_listed, tally_or}
use Rattle.fx_layout.proofs.Sames.{measured_as, placed_as}

-- the marks before, between and behind the sweeps of both axes, and what these made
pub record AreLaid (old : Kept) (olds : List ℕ) (nodes : List BoxFacts) (looks : List Look) (window : Option (ℕ × ℕ))
    (listed : List ℕ) (new : Kept) (first second third : List Bool) : Type 0 where
  pub marked : (p : ℕ) → p < length nodes → flag_in first p ≡ is_listed listed p
  pub widths : AreMeasured Across nodes looks new.children (flag_in first) [] [] (lengths_in olds old.widths) new.widths
  pub root_across : span_at new.across 0 ≡ from_corner (root_length (window_width window) (extent_at new.widths 0))
  pub across : ArePlaced Across nodes looks new.children (flag_in first) new.widths [] (last_in olds old.across)
      (kept_in olds old.children old.across) new.across
  pub anew : (p : ℕ) → p < length nodes
      → flag_in second p ≡ is_worked (flag_in first) (last_in olds old.across) new.across p
  pub heights : AreMeasured Down nodes looks new.children (flag_in second) new.widths new.across
      (lengths_in olds old.heights) new.heights
  pub root_down : span_at new.down 0 ≡ from_corner (root_length (window_height window) (extent_at new.heights 0))
  pub down : ArePlaced Down nodes looks new.children (flag_in second) new.widths new.heights (last_in olds old.down)
      (kept_in olds old.children old.down) new.down
  pub done : (p : ℕ) → p < length nodes
      → flag_in third p ≡ is_worked (flag_in second) (last_in olds old.down) new.down p

wide_anew : (old : Kept) (olds : List ℕ) (nodes : List BoxFacts) (looks : List Look) (window : Option (ℕ × ℕ))
    (listed : List ℕ) (new : Kept) (first second third : List Bool)
    → AreLaid old olds nodes looks window listed new first second third → (p : ℕ) → p < length nodes
    → flag_in second p ≡ is_wide_anew listed olds old.across new.across p
wide_anew old olds nodes looks window listed new first second third are p within =
    are.anew p within
    ∙ ap (λ b. b || not (nat_eq (span_at new.across p).length (last_in olds old.across p).length)) (are.marked p within)

pub update_is : (old : Kept) (olds : List ℕ) (nodes : List BoxFacts) (looks : List Look) (window : Option (ℕ × ℕ))
    (listed : List ℕ) (new : Kept) (first second third : List Bool) → olds ≡ old_places old.keys nodes
    → AreLaid old olds nodes looks window listed new first second third → new.keys ≡ keys nodes
    → new.children ≡ children_lists (parents nodes) → AreRects nodes new.across new.down new.rects
    → IsUpdate old nodes looks window listed new
update_is old olds nodes looks window listed new first second third found are named hung rects =
    subst (λ o. (o ≡ old_places old.keys nodes) → AreLaid old o nodes looks window listed new first second third
    → IsUpdate old nodes looks window listed new) (sym found) (λ same laid. made laid) found are
  where
    made : AreLaid old (old_places old.keys nodes) nodes looks window listed new first second third
        → IsUpdate old nodes looks window listed new
    made laid =
        let where_old = old_places old.keys nodes in
        let busy = wide_anew old where_old nodes looks window listed new first second third laid in
        record {
          keys = named;
          children = hung;
          widths = measured_as Across nodes looks new.children (flag_in first) (is_listed listed) [] []
              (lengths_in where_old old.widths) (lengths_in where_old old.widths) new.widths laid.marked (λ p within. refl)
              laid.widths;
          root_across = laid.root_across;
          across = placed_as Across nodes looks new.children (flag_in first) (is_listed listed) new.widths []
              (last_in where_old old.across) (kept_in where_old old.children old.across) new.across laid.marked laid.across;
          heights = measured_as Down nodes looks new.children (flag_in second)
              (is_wide_anew listed where_old old.across new.across) new.widths new.across
              (lengths_in where_old old.heights) (lengths_in where_old old.heights) new.heights busy (λ p within. refl)
              laid.heights;
          root_down = laid.root_down;
          down = placed_as Down nodes looks new.children (flag_in second)
              (is_wide_anew listed where_old old.across new.across) new.widths new.heights
              (last_in where_old old.down) (kept_in where_old old.children old.down) new.down busy laid.down;
          rects = rects;
        }

or_left : (a b c : Bool) → (a || b) ≡ true → (a || (b || c)) ≡ true
or_left true b c e = refl
or_left false true c e = refl
or_left false false c e = absurd (true≢false (sym e))

or_three : (a b c : Bool) → ((a || b) || c) ≡ (a || (b || c))
or_three true b c = refl
or_three false b c = refl

-- how many calls of panes the sweeps make
pub count_is : (old : Kept) (olds : List ℕ) (nodes : List BoxFacts) (looks : List Look) (window : Option (ℕ × ℕ))
    (listed : List ℕ) (new : Kept) (first second third : List Bool) → olds ≡ old_places old.keys nodes
    → AreLaid old olds nodes looks window listed new first second third
    → tally (flag_in first) (length nodes) + 2 * tally (flag_in second) (length nodes)
    + tally (flag_in third) (length nodes)
    ≡ laid_count old nodes listed new
count_is old olds nodes looks window listed new first second third found are =
    subst (λ o. AreLaid old o nodes looks window listed new first second third
    → tally (flag_in first) (length nodes) + 2 * tally (flag_in second) (length nodes)
    + tally (flag_in third) (length nodes)
    ≡ laid_count old nodes listed new) (sym found) counted are
  where
    counted : AreLaid old (old_places old.keys nodes) nodes looks window listed new first second third
        → tally (flag_in first) (length nodes) + 2 * tally (flag_in second) (length nodes)
        + tally (flag_in third) (length nodes)
        ≡ laid_count old nodes listed new
    counted laid =
        let n = length nodes in
        let where_old = old_places old.keys nodes in
        let wide = λ (p : ℕ). not (nat_eq (span_at new.across p).length (last_in where_old old.across p).length) in
        let high = λ (p : ℕ). not (nat_eq (span_at new.down p).length (last_in where_old old.down p).length) in
        let busy = wide_anew old where_old nodes looks window listed new first second third laid in
        let one = tally_same (flag_in first) (is_listed listed) n laid.marked in
        let two = tally_same (flag_in second) (is_wide_anew listed where_old old.across new.across) n busy in
        let three = tally_same (flag_in third) (λ p. is_listed listed p || is_resized old nodes new p) n
        (λ p within. laid.done p within
        ∙ (ap (λ b. b || high p) (busy p within) ∙ or_three (is_listed listed p) (wide p) (high p))) in
        omega (arith, one, two, three)

-- each of the listed and of the resized nodes is worked on by few of the sweeps
pub count_most : (old : Kept) (nodes : List BoxFacts) (listed : List ℕ) (new : Kept)
    → laid_count old nodes listed new ≤ laid_bound (length listed) (resized old nodes new)
count_most old nodes listed new =
    let n = length nodes in
    let where_old = old_places old.keys nodes in
    let wide = λ (p : ℕ). not (nat_eq (span_at new.across p).length (last_in where_old old.across p).length) in
    let high = λ (p : ℕ). not (nat_eq (span_at new.down p).length (last_in where_old old.down p).length) in
    let few = few_listed listed n in
    let wider = tally_or (is_wide_anew listed where_old old.across new.across) (is_listed listed)
    (is_resized old nodes new) n (λ p within e. or_left (is_listed listed p) (wide p) (high p) e) in
    let higher = tally_or (λ p. is_listed listed p || is_resized old nodes new p) (is_listed listed)
    (is_resized old nodes new) n (λ p within e. e) in
    omega (arith, few, wider, higher)

-- marks by the place where each node stood tell which rectangles are other ones
pub told_moved : (old : Kept) (olds : List ℕ) (nodes : List BoxFacts) (new : Kept) (marks : List Bool)
    → olds ≡ old_places old.keys nodes → length marks ≡ length olds
    → ((p : ℕ) → p < length olds → flag_in marks p ≡ false
    → (old_at olds p < length old.rects) × (rect_at new.rects p ≡ rect_at old.rects (old_at olds p)))
    → AreTold old nodes new marks
told_moved old olds nodes new marks found each still =
    subst (λ (o : List ℕ). length marks ≡ length o
    → ((p : ℕ) → p < length o → flag_in marks p ≡ false
    → (old_at o p < length old.rects) × (rect_at new.rects p ≡ rect_at old.rects (old_at o p)))
    → AreTold old nodes new marks) (sym found) told each still
  where
    told : length marks ≡ length (old_places old.keys nodes)
        → ((p : ℕ) → p < length (old_places old.keys nodes) → flag_in marks p ≡ false
        → (old_at (old_places old.keys nodes) p < length old.rects)
        × (rect_at new.rects p ≡ rect_at old.rects (old_at (old_places old.keys nodes) p)))
        → AreTold old nodes new marks
    told many same =
        let long : length (old_places old.keys nodes) ≡ length nodes =
        length-map nodes (λ (node : BoxFacts). old_place old.keys node.key) in
        record {
          each = many ∙ long;
          there = λ p within free. (same p (omega (arith, within, long)) free).0;
          still = λ p within free. (same p (omega (arith, within, long)) free).1;
        }
