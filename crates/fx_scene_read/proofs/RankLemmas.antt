-- Children, counted while pieces come one behind the other.
use Rattle.std.proofs.Common.{◌≡◌, ◌<◌, ◌≤◌, ◌+◌, ℕ, Bool, true, false, cond, List, [], ◌∷◌, ◌++◌, length, map, nat_eq, nat_lt, arith, Option, Some, None, refl, sym, ap, subst, ◌∙◌, set, inl, inr, true≢false}
use Rattle.std.specs.Prelude.{slice_index}
use Rattle.std.proofs.lemmas.Bool.{cases_order, eq-eqb, lt-ltb}
use Rattle.std.proofs.lemmas.Bool.Decides.{Decides-eqb}
use Rattle.std.proofs.lemmas.List.{get_or-set_other, get_or-set_same, length-map, length-set}
use Rattle.std.proofs.lemmas.List.Sums.{count_by-le-length, fold-append}
use Rattle.fx_scene_read.specs.Opening.{AreCounted, children, is_child, is_owner, one_more, owner_in, seat_of}
use Rattle.fx_scene_outline.specs.Pieces.{Piece}
use Rattle.fx_scene_outline.specs.Views.{piece_view, shown}
use Rattle.fx_scene_outline.specs.declared.pieces.Piece.{Piece as HeldPiece}

children_one : (owner : ℕ) (before : List Piece) (piece : Piece)
    → children owner (before ++ (piece ∷ [])) ≡ children owner before + cond (is_child owner piece) 1 0
unfolding children
children_one owner before piece =
    fold-append (λ (n : ℕ) (p : Piece). n + cond (is_child owner p) 1 0) 0 before (piece ∷ [])

-- a further piece is a child of this one, or of none
child_told : (owner : ℕ) (before : List Piece) (piece : Piece) (parent : Option ℕ) → owner_in (seat_of piece) ≡ parent
    → children owner (before ++ (piece ∷ [])) ≡ children owner before + cond (is_owner owner parent) 1 0
child_told owner before piece parent is =
    children_one owner before piece
    ∙ ap (λ (o : Option ℕ). children owner before + cond (is_owner owner o) 1 0) is

pub none_more : (before : List Piece) (piece : Piece) (counts : List ℕ) → owner_in (seat_of piece) ≡ None
    → AreCounted before counts → AreCounted (before ++ (piece ∷ [])) counts
none_more before piece counts nobody are owner within =
    omega (arith, are owner within, child_told owner before piece None nobody)

no : (p q : ℕ) → (p ≡ q → ⊥) → nat_eq p q ≡ false
no p q differ = apart (nat_eq p q) refl
  where
    apart : (b : Bool) → nat_eq p q ≡ b → nat_eq p q ≡ false
    apart true e = absurd (differ ((Decides-eqb p q).0 e))
    apart false e = e

-- another piece has no child more
other_told : (owner parent : ℕ) (before : List Piece) (piece : Piece) → owner_in (seat_of piece) ≡ Some parent
    → (parent ≡ owner → ⊥) → children owner (before ++ (piece ∷ [])) ≡ children owner before
other_told owner parent before piece is differ =
    let told = child_told owner before piece (Some parent) is in
    let none : cond {A = ℕ} (nat_eq parent owner) 1 0 ≡ 0 = ap (λ (b : Bool). cond {A = ℕ} b 1 0) (no parent owner differ) in
    omega (arith, told, none)

pub child_more : (before : List Piece) (piece : Piece) (counts : List ℕ) (parent : ℕ)
    → owner_in (seat_of piece) ≡ Some parent → AreCounted before counts
    → AreCounted (before ++ (piece ∷ [])) (one_more parent counts)
child_more before piece counts parent is are = by_test (nat_lt parent (length counts)) refl
  where
    within_too : (owner : ℕ) → owner < length (set counts parent (slice_index counts parent + 1)) → owner < length counts
    within_too owner less = omega (arith, less, length-set counts parent (slice_index counts parent + 1))

    here : parent < length counts
        → slice_index (set counts parent (slice_index counts parent + 1)) parent ≡ children parent (before ++ (piece ∷ []))
    here there =
        let told = child_told parent before piece (Some parent) is in
        let one : cond {A = ℕ} (nat_eq parent parent) 1 0 ≡ 1 = ap (λ (b : Bool). cond {A = ℕ} b 1 0) (eq-eqb parent parent refl) in
        get_or-set_same counts parent (slice_index counts parent + 1) 0 there ∙ omega (arith, are parent there, told, one)

    other : (owner : ℕ) → owner < length counts → (owner ≡ parent → ⊥)
        → slice_index (set counts parent (slice_index counts parent + 1)) owner ≡ children owner (before ++ (piece ∷ []))
    other owner less differ =
        get_or-set_other counts parent owner (slice_index counts parent + 1) 0 differ
        ∙ (are owner less ∙ sym (other_told owner parent before piece is (λ same. differ (sym same))))

    by_test : (b : Bool) → nat_lt parent (length counts) ≡ b
        → AreCounted (before ++ (piece ∷ [])) (cond b (set counts parent (slice_index counts parent + 1)) counts)
    by_test true e owner less = elim (cases_order owner parent) [
      | inl same ↦ subst (λ r. slice_index (set counts parent (slice_index counts parent + 1)) r
          ≡ children r (before ++ (piece ∷ []))) (sym same)
          (here (subst (λ r. r < length counts) same (within_too owner less)))
      | inr (inl fewer) ↦ other owner (within_too owner less) (λ same. absurd (omega (arith, same, fewer)))
      | inr (inr more) ↦ other owner (within_too owner less) (λ same. absurd (omega (arith, same, more)))
    ]
    by_test false e owner less =
        are owner less ∙ sym (other_told owner parent before piece is (λ same. past same))
      where
        past : parent ≡ owner → ⊥
        past same = true≢false (sym (lt-ltb parent (length counts) (omega (arith, same, less))) ∙ e)

pub no_more_than : (owner : ℕ) (before : List HeldPiece) → children owner (shown before) ≤ length before
unfolding children
no_more_than owner before = omega (arith, count_by-le-length (is_child owner) (shown before), length-map before piece_view)
