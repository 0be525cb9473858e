-- Marks from several names: what they keep, and that the order of the names is nothing to them.
use Rattle.std.proofs.Common.{◌≡◌, ℕ, Bool, true, false, not, ◌&&◌, ◌||◌, List, [], ◌∷◌, length, filter, refl, sym, ◌∙◌, ap}
use Rattle.std.specs.List.{Contains, range_with_len}
use Rattle.std.proofs.lemmas.Bool.{false_from_ne_true}
use Rattle.std.proofs.lemmas.List.Elements.{filter_agree}
use Rattle.fx_graph_model.specs.declared.entries.Entry.{Entry}
use Rattle.fx_graph_model.specs.Unread.{marked, leads_to_any, after_marking, newly_marked}
use Rattle.fx_graph_model.proofs.Members.{none_in_nil, map_same}
use Rattle.fx_graph_model.proofs.Walks.{any-at, any-to}
use Rattle.fx_graph_model.proofs.Flags.{flags_by, same_test}

pub any-same : (es : List Entry) (xs ys : List ℕ) (name : ℕ) → ((n : ℕ) → Contains xs n → Contains ys n)
    → ((n : ℕ) → Contains ys n → Contains xs n) → leads_to_any es xs name ≡ leads_to_any es ys name
any-same es xs ys name there back = same_test _ _ (more xs ys there) (more ys xs back)
  where
    more : (some others : List ℕ) → ((n : ℕ) → Contains some n → Contains others n) → leads_to_any es some name ≡ true
        → leads_to_any es others name ≡ true
    more some others each e =
        let to = any-to es some name e in
        any-at es others name to.0 (each to.0 to.1) to.2

pub any-none : (es : List Entry) (name : ℕ) → leads_to_any es [] name ≡ false
any-none es name =
    false_from_ne_true (leads_to_any es [] name) (λ e. let to = any-to es [] name e in none_in_nil to.0 to.1)

-- the order of the names, and how often each stands there, is nothing to the flags
pub marking_same : (es : List Entry) (xs ys : List ℕ) (flags : List Bool) → ((n : ℕ) → Contains xs n → Contains ys n)
    → ((n : ℕ) → Contains ys n → Contains xs n) → after_marking es xs flags ≡ after_marking es ys flags
marking_same es xs ys flags there back =
    map_same (λ (n : ℕ). marked flags n || leads_to_any es xs n) (λ (n : ℕ). marked flags n || leads_to_any es ys n)
    (range_with_len 0 (length flags))
    (λ n _. ap (λ (b : Bool). marked flags n || b) (any-same es xs ys n there back))

pub newly_same : (es : List Entry) (xs ys : List ℕ) (flags : List Bool) → ((n : ℕ) → Contains xs n → Contains ys n)
    → ((n : ℕ) → Contains ys n → Contains xs n) → newly_marked es xs flags ≡ newly_marked es ys flags
newly_same es xs ys flags there back =
    filter_agree (λ (n : ℕ). not (marked flags n) && leads_to_any es xs n)
    (λ (n : ℕ). not (marked flags n) && leads_to_any es ys n)
    (λ n. ap (λ (b : Bool). not (marked flags n) && b) (any-same es xs ys n there back)) (range_with_len 0 (length flags))

-- a mark from no name
pub marking_none : (es : List Entry) (flags : List Bool) → after_marking es [] flags ≡ flags
marking_none es flags =
    sym (flags_by (λ (n : ℕ). marked flags n || leads_to_any es [] n) flags (length flags) refl
    (λ n h. sym (ap (λ (b : Bool). marked flags n || b) (any-none es n) ∙ or-false (marked flags n))))
  where
    or-false : (b : Bool) → (b || false) ≡ b
    or-false true = refl
    or-false false = refl

pub newly_none : (es : List Entry) (flags : List Bool) → newly_marked es [] flags ≡ []
newly_none es flags =
    filter_agree (λ (n : ℕ). not (marked flags n) && leads_to_any es [] n) (λ (n : ℕ). false)
    (λ n. ap (λ (b : Bool). not (marked flags n) && b) (any-none es n) ∙ and-false (not (marked flags n)))
    (range_with_len 0 (length flags))
    ∙ none (range_with_len 0 (length flags))
  where
    and-false : (b : Bool) → (b && false) ≡ false
    and-false true = refl
    and-false false = refl

    none : (xs : List ℕ) → filter (λ (n : ℕ). false) xs ≡ []
    none [] = refl
    none (x ∷ xs) = none xs
