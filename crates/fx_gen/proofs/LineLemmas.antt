-- One more line, one more part of lines, one more step.
use Rattle.std.proofs.Common.{◌≡◌, ℕ, ◌+◌, List, [], ◌∷◌, ◌++◌, refl, ap, sym, ◌∙◌, zero-add, add-one, ◌*◌}
use Rattle.std.specs.List.{flat_map, range_with_len}
use Rattle.std.proofs.lemmas.Grind.{flat_map-append}
use Rattle.std.proofs.lemmas.List.{flat_map_more, map-id}
use Rattle.std.proofs.lemmas.List.FromFn.{map-range_with_len_more}
use Rattle.fx_gen.specs.Demo.{box_lines, boxes, ended, label_in, labels, text_of, turn, turns}
use Rattle.fx_gen.specs.Draws.{state, step}

pub state-more : (number k : ℕ) → state number (k + 1) ≡ step (state number k)
unfolding state
state-more number k = rw add-one refl

pub state-zero : (number : ℕ) → state number 0 ≡ number
unfolding state
state-zero number = refl

pub text_of-append : (xs ys : List (List ℕ)) → text_of (xs ++ ys) ≡ text_of xs ++ text_of ys
text_of-append xs ys = flat_map-append ended xs ys

-- the text of the labels of a box, and of one more
pub labels-more : (number group count index : ℕ) → 10 * group + count ≡ index
    → text_of (labels number group (count + 1)) ≡ text_of (labels number group count) ++ ended (label_in number index)
unfolding labels
labels-more number group count index e =
    ap text_of (map-range_with_len_more (label_in number) (10 * group) count index e)
    ∙ sym (flat_map_more ended [] (labels number group count) (label_in number index))

range-more : (a n j : ℕ) → a + n ≡ j → range_with_len a (n + 1) ≡ range_with_len a n ++ (j ∷ [])
range-more a n j e =
    sym (map-id (range_with_len a (n + 1))) ∙ map-range_with_len_more (λ k. k) a n j e
    ∙ ap (λ xs. xs ++ (j ∷ [])) (map-id (range_with_len a n))

-- the text of parts by number, and of one more
parts-more : (f : ℕ → List (List ℕ)) (a n j : ℕ) → a + n ≡ j
    → text_of (flat_map f (range_with_len a (n + 1))) ≡ text_of (flat_map f (range_with_len a n)) ++ text_of (f j)
parts-more f a n j e =
    ap text_of (ap (flat_map f) (range-more a n j e) ∙ sym (flat_map_more f [] (range_with_len a n) j))
    ∙ text_of-append (flat_map f (range_with_len a n)) (f j)

pub boxes-more : (number count : ℕ)
    → text_of (boxes number (count + 1)) ≡ text_of (boxes number count) ++ text_of (box_lines number count)
unfolding boxes
boxes-more number count = parts-more (box_lines number) 0 count count (zero-add count)

pub turns-more : (number count j : ℕ) → 1 + count ≡ j
    → text_of (turns number (count + 1)) ≡ text_of (turns number count) ++ text_of (turn number j)
unfolding turns
turns-more number count j e = parts-more (turn number) 1 count j e

pub boxes-zero : (number : ℕ) → boxes number 0 ≡ []
unfolding boxes
boxes-zero number = refl

pub turns-zero : (number : ℕ) → turns number 0 ≡ []
unfolding turns
turns-zero number = refl

pub labels-zero : (number group : ℕ) → labels number group 0 ≡ []
unfolding labels
labels-zero number group = refl
