-- Values that are given to names one by one.
use Rattle.std.proofs.Common.{◌≡◌, ◌<◌, ◌+◌, ℕ, Bool, true, false, cond, not, List, [], ◌∷◌, ◌++◌, length, get_or, set, take, drop, reverse, map, filter, All, Contains, refl, sym, ap, subst, ◌∙◌, inl, inr, arith}
use Rattle.std.proofs.lemmas.List.{at_drop_more, take_more, map-append, append-nil, append_cancel_right, reverse-append}
use Rattle.std.proofs.lemmas.List.Elements.{filter-append, Contains-append_left, Contains-append_right, Contains-append_cases}
use Rattle.std.proofs.lemmas.Bool.{cases_lt, cases_Bool}
use Rattle.fx_base.specs.declared.keys.Name.{Name}
use Rattle.fx_base.specs.declared.values.Value.{Value}
use Rattle.fx_base.specs.Printing.{is_plain}
use Rattle.fx_graph_model.specs.declared.entries.Entry.{Entry}
use Rattle.fx_graph_model.specs.Uses.{entry_of, Ranked}
use Rattle.fx_graph_model.specs.Equality.{same_value}
use Rattle.fx_graph_model.specs.Eager.{value_of_definition, eager}
use Rattle.fx_graph_model.specs.Unread.{marked}
use Rattle.fx_graph_model.specs.Marking.{MarksAll, at}
use Rattle.fx_graph_model.specs.Changes.{given, with_values, changed}
use Rattle.fx_graph_model.proofs.Values.{eager-unfold}
use Rattle.fx_graph.specs.Given.{texts_of, texts_in}

-- an item that was read by its place has what all have
pub at_item : {X : Type 0} (P : X → Type 0) (xs : List X) (k : ℕ) (x : X) → k < length xs → x ≡ get_or xs k x → All P xs → P x
at_item P xs k x h e all = subst P (sym e) (all k x h)

turned : (is : Bool) (value : Value) (rest : List Value)
    → reverse (cond is (value ∷ rest) rest) ≡ reverse rest ++ cond is (value ∷ []) []
turned true value rest = reverse-append (value ∷ []) rest
turned false value rest = sym (append-nil (reverse rest))

module _ (pairs : List (Name × Value)) (k : ℕ) (pair : Name × Value) (h : k < length pairs) (is : pair ≡ get_or pairs k pair) where
  pub given_more : (sets : Bool) (es : List Entry)
      → with_values sets (drop (k + 1) pairs) (set es pair.0.0 (given sets pair.1 (entry_of es pair.0.0))) ≡ with_values sets (drop k pairs) es
  given_more sets es =
      sym (subst (λ (p : Name × Value). with_values sets (drop k pairs) es ≡ with_values sets (p ∷ drop (k + 1) pairs) es) (sym is)
      (at_drop_more (λ (ps : List (Name × Value)). with_values sets ps es) pairs k pair h))

  -- the text of the next pair, if it is one, stands last
  pub texts_more : reverse (texts_in (drop k pairs)) ≡ reverse (texts_in (drop (k + 1) pairs)) ++ texts_of (pair.1 ∷ [])
  texts_more =
      subst (λ (p : Name × Value). reverse (texts_in (drop k pairs)) ≡ reverse (texts_in (p ∷ drop (k + 1) pairs))) (sym is)
      (at_drop_more (λ (ps : List (Name × Value)). reverse (texts_in ps)) pairs k pair h)
      ∙ turned (not (is_plain pair.1)) pair.1 (texts_in (drop (k + 1) pairs))

  -- the other texts are left when it is taken
  pub texts_less : (before now : List Value) → before ≡ reverse (texts_in (drop k pairs)) → before ≡ now ++ texts_of (pair.1 ∷ [])
      → now ≡ reverse (texts_in (drop (k + 1) pairs))
  texts_less before now all taken = append_cancel_right _ _ _ (sym taken ∙ all ∙ texts_more)

  pub changed_more : (es : List Entry) → changed (take (k + 1) pairs) es ≡ changed (take k pairs) es ++ changed (pair ∷ []) es
  changed_more es =
      let p : Name × Value → Bool = λ q. not (same_value (eager es q.0.0) q.1) in
      let f : Name × Value → ℕ = λ q. q.0.0 in
      ap (λ (ps : List (Name × Value)). changed ps es) (take_more pairs k pair h)
      ∙ subst (λ (q : Name × Value). changed (take k pairs ++ q ∷ []) es ≡ changed (take k pairs) es ++ changed (pair ∷ []) es) is
      (ap (map f) (filter-append p (take k pairs) (pair ∷ [])) ∙ map-append f (filter p (take k pairs)) (filter p (pair ∷ [])))

-- whether the one pair is a change
pub changed-one : (es : List Entry) (rank : ℕ → ℕ) → Ranked es rank → (pair : Name × Value)
    → (b : Bool) → b ≡ same_value (value_of_definition (eager es) (entry_of es pair.0.0).definition) pair.1 → changed (pair ∷ []) es ≡ cond b [] (pair.0.0 ∷ [])
changed-one es rank ranked pair b e =
    let test : same_value (eager es pair.0.0) pair.1 ≡ b =
    ap (λ (v : Value). same_value v pair.1) (eager-unfold es rank ranked pair.0.0) ∙ sym e in
    rw test (by_case b)
  where
    by_case : (b : Bool) → map (λ (q : Name × Value). q.0.0) (cond (not b) (pair ∷ []) []) ≡ cond b [] (pair.0.0 ∷ [])
    by_case true = refl
    by_case false = refl

-- names that are marked after others
pub marks_both : (xs ys : List ℕ) (f : List Bool) (w : List ℕ) (c : ℕ) (f1 : List Bool) (w1 : List ℕ) (c1 : ℕ) (f2 : List Bool) (w2 : List ℕ) (c2 : ℕ)
    → MarksAll xs f w c f1 w1 c1 → MarksAll ys f1 w1 c1 f2 w2 c2 → MarksAll (xs ++ ys) f w c f2 w2 c2
marks_both xs ys f w c f1 w1 c1 f2 w2 c2 m n =
    record {
      flags = n.flags ∙ m.flags;
      places = n.places ∙ m.places;
      room = n.room ∙ m.room;
      more = omega (arith, m.more, n.more);
      kept = λ name on. n.kept name (m.kept name on);
      each = λ name i.
          elim (Contains-append_cases xs ys name i) [ inl x ↦ n.kept name (m.each name x) | inr y ↦ n.each name y ];
      only = λ name on.
          elim (n.only name on) [
            | inl was ↦
                elim (m.only name was) [ inl first ↦ inl first | inr x ↦ inr (Contains-append_left xs ys name x) ]
            | inr y ↦ inr (Contains-append_right xs ys name y)
          ];
      front = λ i h. n.front i (omega (arith, m.more)) ∙ m.front i h;
      fresh = λ i low high.
          elim (cases_lt i c1) [
            | inl q ↦ subst (Contains (xs ++ ys)) (sym (n.front i q)) (Contains-append_left xs ys (at w1 i) (m.fresh i low q))
            | inr q ↦ Contains-append_right xs ys (at w2 i) (n.fresh i q high)
          ];
      found = λ name off on.
          elim (cases_Bool (marked f1 name)) [
            | inl q ↦
                let p = m.found name off q in
                (p.0, p.1, omega (arith, p.2, n.more), n.front p.0 p.2 ∙ p.3)
            | inr q ↦
                let p = n.found name q on in
                (p.0, omega (arith, p.1, m.more), p.2, p.3)
          ];
      goes_on = λ before l. n.goes_on before (m.goes_on before l);
    }
