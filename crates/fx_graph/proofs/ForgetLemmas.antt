-- What is asked before names are forgotten, and what forgetting leaves of what the graph keeps.
use Rattle.std.proofs.Common.{refl, zero, suc, ◌⊎◌, ◌≡◌, ◌<◌, ◌≤◌, ◌+◌, ℕ, Bool, true, false, cond, List, [], ◌∷◌, length, get_or, set, take, Contains, Some, None, sym, ap, subst, ◌∙◌, inl, inr, arith, replicate}
use Rattle.std.proofs.lemmas.Bool.{both_ways}
use Rattle.std.proofs.lemmas.List.Elements.{Contains-push_cases}
use Rattle.fx_base.specs.declared.keys.Name.{Name}
use Rattle.fx_base.specs.declared.values.Value.{Value}
use Rattle.fx_expr.specs.Meaning.{no_value}
use Rattle.fx_graph_model.specs.declared.entries.Entry.{Entry}
use Rattle.fx_graph_model.specs.declared.errors.GraphError.{GraphError}
use Rattle.fx_graph_model.specs.declared.errors.GraphError.TheVariants.{Unknown}
use Rattle.fx_graph_model.specs.Changes.{forget_all, clear_all}
use Rattle.fx_base.specs.Names.{numbers}
use Rattle.fx_graph_model.specs.Refusals.{IsFree, IsForgetRefusal, unknown_name, operand_count}
use Rattle.fx_graph_model.specs.Sound.{IsSettled}
use Rattle.fx_graph_model.specs.Users.{Row, users_of, Mirrors}
use Rattle.fx_graph_model.specs.Uses.{unknown_in}
use Rattle.fx_graph_model.proofs.Changed.{known_within}
use Rattle.fx_graph_model.proofs.Forgetting.{reset_all, reset-none, reset-more, length-forget, ranked_forget, settled_forget}
use Rattle.fx_graph_model.proofs.Members.{map_contains}
use Rattle.fx_graph_model.proofs.Refusing.{refused_none}
use Rattle.fx_graph_model.proofs.SoundLemmas.{sound_forget}
use Rattle.fx_graph_model.specs.Unread.{marked}
use Rattle.fx_graph_model.specs.Marking.{MarksAll}
use Rattle.fx_graph.specs.Forgotten.{AreFlagged, IsSomeOutside, reset}
use Rattle.fx_graph.specs.Store.{IsStore}
use Rattle.fx_graph_edges.proofs.RowLemmas.{numbers_more}

-- names that are all known were declared
pub known_names : (es : List Entry) (names : List Name) → unknown_name es names ≡ None → (name : ℕ) → Contains (numbers names) name → name < length es
known_names es names e name c =
    let found = map_contains (λ (n : Name). n.0) names name c in
    subst (λ k. k < length es) found.2
    (known_within es found.0.0 (refused_none Unknown (λ (n : Name). unknown_in es n.0) names e found.0 found.1))

-- an unknown name is a refusal of the right form
pub unknown_refused : (es : List Entry) (names : List Name) (error : GraphError) → unknown_name es names ≡ Some error → IsForgetRefusal names es error
unknown_refused es names error e =
    let found = first_is names e in
    subst (IsForgetRefusal names es) found.1 (e ∙ ap Some (sym found.1))
  where
    first_is : (rest : List Name) → unknown_name es rest ≡ Some error → (name : Name) × (Unknown name ≡ error)
    first_is [] h = absurd (cc)
    first_is (name ∷ rest) h = by_first name (first_is rest) (unknown_in es name.0) h
      where
        by_first : (name : Name) → (unknown_name es rest ≡ Some error → (n : Name) × (Unknown n ≡ error)) → (b : Bool)
            → cond b (Some (Unknown name)) (unknown_name es rest) ≡ Some error → (n : Name) × (Unknown n ≡ error)
        by_first name later true g = (name, cc)
        by_first name later false g = later g

-- no user of the names that were looked at is another name
pub inside_more : (names : List Name) (users : List Row) (all : List ℕ) (i : ℕ) (d : Name) → i < length names
    → ((name user : ℕ) → Contains (numbers (take i names)) name → Contains (users_of users name) user → Contains all user)
    → ((user : ℕ) → Contains (users_of users (get_or names i d).0) user → Contains all user)
    → (name user : ℕ) → Contains (numbers (take (i + 1) names)) name → Contains (users_of users name) user → Contains all user
inside_more names users all i d h before here name user c u =
    elim (Contains-push_cases (numbers (take i names)) (get_or names i d).0 name (subst (λ (xs : List ℕ). Contains xs name) (numbers_more names i d h) c)) [
      | inl old ↦ before name user old u
      | inr same ↦ here user (subst (λ k. Contains (users_of users k) user) (sym same) u)
    ]

-- users that the rows give are users
pub free_from_rows : (es : List Entry) (users : List Row) (names : List ℕ) → Mirrors es users → IsSomeOutside names users None → IsFree names es
free_from_rows es users names m none user used c d = none used user c (m.listed user used d)

pub reset_is : (names : List ℕ) (cache : List Value) → reset names cache ≡ reset_all names cache
reset_is [] cache = sym (reset-none cache)
reset_is (name ∷ names) cache = reset_is names (set cache name no_value) ∙ sym (reset-more name names cache)

-- names that no other name uses were forgotten
pub store_forgotten : (es : List Entry) (users : List Row) (unread before : List Bool) (newly : List Name) (n : ℕ) (cache : List Value) (work : List ℕ) (operands : ℕ)
    (names : List ℕ) (users' : List Row) (left : ℕ)
    → IsStore es users unread before newly n cache work operands → IsFree names es
    → Mirrors (forget_all names es) users' → left ≡ operand_count (forget_all names es) → left ≤ operands
    → IsStore (forget_all names es) users' (clear_all names unread) before newly n (reset names cache) work left
store_forgotten es users unread before newly n cache work operands names users' left s free m counted fewer =
    let long : length (forget_all names es) ≡ length es = length-forget names es in
    record {
      ranks = (s.ranks.0, ranked_forget names es s.ranks.0 s.ranks.1);
      sound = sound_forget names es s.sound free;
      settled = subst (IsSettled (forget_all names es) (clear_all names unread)) (sym (reset_is names cache))
          (settled_forget names es s.ranks.0 s.ranks.1 free unread cache s.settled);
      mirrors = m;
      spare_unset = s.spare_unset ∙ ap (λ n. replicate n false) (sym long);
      newly_length = s.newly_length ∙ sym long;
      newly_few = omega (arith, s.newly_few);
      work_length = s.work_length ∙ sym long;
      few = omega (arith, s.few);
      counted = counted;
      operands_few = omega (arith, s.operands_few);
    }

blank : (n name : ℕ) → marked (replicate n false) name ≡ false
blank zero name = refl
blank (suc n) zero = refl
blank (suc n) (suc name) = blank n name

-- names that were marked in flags of which none was set are the flagged ones
pub flagged : (n : ℕ) (names : List ℕ) (work : List ℕ) (now : List Bool) (after : List ℕ) (end : ℕ)
    → MarksAll names (replicate n false) work 0 now after end → AreFlagged names now
flagged n names work now after end m =
    record {
      set = m.each;
      only = λ name on. only name (m.only name on);
    }
  where
    only : (name : ℕ) → (marked (replicate n false) name ≡ true) ⊎ Contains names name → Contains names name
    only name (inl before) = absurd (both_ways _ (blank n name) before)
    only name (inr among) = among

-- forgetting some of the names that are left gives a list of one length with the first
pub length-forgotten : (all left : List ℕ) (es now : List Entry) → forget_all left now ≡ forget_all all es → length now ≡ length es
length-forgotten all left es now same = sym (length-forget left now) ∙ ap length same ∙ length-forget all es
