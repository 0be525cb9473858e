-- What the graph keeps, at each of its calls.
use Rattle.std.proofs.Common.{zero, suc, ◌≡◌, ◌<◌, ◌≤◌, ◌+◌, ℕ, Bool, false, List, [], ◌∷◌, ◌++◌, length, ◌≢◌, AllPairs, Contains, refl, sym, ap, subst, ◌∙◌, arith, replicate}
use Rattle.std.proofs.lemmas.List.{length_push}
use Rattle.std.proofs.lemmas.List.Elements.{All-contains}
use Rattle.fx_base.specs.Printing.{kind_of}
use Rattle.fx_base.specs.declared.keys.Name.{Name}
use Rattle.fx_base.specs.declared.values.Value.{Value}
use Rattle.fx_graph_model.specs.declared.entries.Entry.{Entry}
use Rattle.fx_graph_model.specs.declared.entries.Definition.TheVariants.{Base}
use Rattle.fx_graph_model.specs.Uses.{operands_in}
use Rattle.fx_graph_model.specs.Sound.{IsSettled}
use Rattle.fx_graph_model.specs.Users.{Row}
use Rattle.fx_graph_model.specs.Refusals.{operand_count}
use Rattle.fx_graph_model.specs.Unread.{after_marking}
use Rattle.fx_graph_model.specs.Changes.{with_values, changed}
use Rattle.fx_graph_model.proofs.Members.{none_in_nil}
use Rattle.fx_graph_model.proofs.Ranks.{ranked_empty, ranked_declared}
use Rattle.fx_graph_model.proofs.Changed.{settled_declared}
use Rattle.fx_graph_model.proofs.Edges.{mirrors_declared}
use Rattle.fx_graph_model.proofs.Binding.{operand_count-declared}
use Rattle.fx_graph_model.proofs.SoundLemmas.{sound_empty, sound_declared, sound_given}
use Rattle.fx_graph_model.proofs.Given.{length-given, ranked_given, mirrors_given, settled_given}
use Rattle.fx_graph.specs.Given.{IsBase, AreBase}
use Rattle.fx_graph.specs.Store.{IsStore}
use Rattle.fx_graph.proofs.AllowedLemmas.{count_given}

-- one flag more that isn't set
blank_more : (n : ℕ) → replicate n false ++ false ∷ [] ≡ replicate (suc n) false
blank_more zero = refl
blank_more (suc n) = ap (λ (l : List Bool). false ∷ l) (blank_more n)

pub store_empty : IsStore [] [] [] [] [] 0 [] [] 0
unfolding operand_count
store_empty =
    record {
      ranks = (λ n. n, ranked_empty (λ n. n));
      sound = sound_empty;
      settled = record { flags = refl; values = refl; closed = λ user name c. absurd (none_in_nil name c); kept = λ name h. absurd (omega arith) };
      mirrors = record { rows = refl; listed = λ user name c. absurd (none_in_nil name c); using = λ user name c. absurd (none_in_nil user c) };
      spare_unset = refl;
      newly_length = refl;
      newly_few = omega arith;
      work_length = refl;
      few = omega arith;
      counted = refl;
      operands_few = omega arith;
    }

pub store_declared : (es : List Entry) (users : List Row) (unread before : List Bool) (newly : List Name) (n : ℕ) (cache : List Value) (work : List ℕ) (operands : ℕ)
    (entry : Entry) (row : Row) (name : Name) (value kept : Value) (place : ℕ) → IsStore es users unread before newly n cache work operands
    → length es < 4000000 → entry.definition ≡ Base value → kind_of value ≡ entry.kind → row.items ≡ [] → kept ≡ value
    → IsStore (es ++ entry ∷ []) (users ++ row ∷ []) (unread ++ false ∷ []) (before ++ false ∷ []) (newly ++ name ∷ []) n (cache ++ kept ∷ []) (work ++ place ∷ []) operands
store_declared es users unread before newly n cache work operands entry row name value kept place s room base kind empty same =
    let none : operands_in entry.definition ≡ [] = ap operands_in base in
    let after = ranked_declared es s.ranks.0 s.ranks.1 entry none in
    let long : length (es ++ entry ∷ []) ≡ length es + 1 = length_push es entry in
    let more : suc (length es) ≡ length (es ++ entry ∷ []) = omega (arith, long) in
    record {
      ranks = after;
      sound = sound_declared es s.ranks.0 s.ranks.1 s.sound entry value base kind;
      settled = subst (λ (v : Value). IsSettled (es ++ entry ∷ []) (unread ++ false ∷ []) (cache ++ v ∷ [])) (sym same)
          (settled_declared es s.ranks.0 after.0 s.ranks.1 entry value after.1 base unread cache s.settled);
      mirrors = mirrors_declared es users entry row s.mirrors none empty s.ranks.1.within;
      spare_unset = ap (λ (l : List Bool). l ++ false ∷ []) s.spare_unset ∙ blank_more (length es) ∙ ap (λ n. replicate n false) more;
      newly_length = omega (arith, length_push newly name, s.newly_length);
      newly_few = omega (arith, s.newly_few);
      work_length = omega (arith, length_push work place, s.work_length);
      few = omega arith;
      counted = s.counted ∙ sym (operand_count-declared es entry none);
      operands_few = s.operands_few;
    }

-- other flags, for which the kept values are right as well
pub store_flags : (es : List Entry) (users : List Row) (unread before : List Bool) (newly : List Name) (n : ℕ) (cache : List Value) (work : List ℕ) (operands : ℕ)
    (unread' : List Bool) → IsStore es users unread before newly n cache work operands → IsSettled es unread' cache
    → IsStore es users unread' before newly n cache work operands
store_flags es users unread before newly n cache work operands unread' s t =
    record {
      ranks = s.ranks;
      sound = s.sound;
      settled = t;
      mirrors = s.mirrors;
      spare_unset = s.spare_unset;
      newly_length = s.newly_length;
      newly_few = s.newly_few;
      work_length = s.work_length;
      few = s.few;
      counted = s.counted;
      operands_few = s.operands_few;
    }

-- names were given values
pub store_given : (es : List Entry) (users : List Row) (unread before : List Bool) (newly : List Name) (n : ℕ) (cache : List Value) (work : List ℕ) (operands : ℕ)
    (sets : Bool) (pairs : List (Name × Value)) (newly' : List Name) (n' : ℕ) (work' : List ℕ)
    → IsStore es users unread before newly n cache work operands
    → AllPairs (λ (one other : Name × Value). one.0 ≢ other.0) pairs → AreBase es pairs
    → length newly' ≡ length es → n' ≤ length es → length work' ≡ length es
    → IsStore (with_values sets pairs es) users (after_marking (with_values sets pairs es) (changed pairs es) unread) before newly' n' cache work' operands
store_given es users unread before newly n cache work operands sets pairs newly' n' work' s distinct all w m k =
    let base : (p : Name × Value) → Contains pairs p → IsBase es p = λ p c. All-contains (IsBase es) pairs p all c in
    let long : length (with_values sets pairs es) ≡ length es = length-given sets pairs es in
    record {
      ranks = (s.ranks.0, ranked_given sets pairs es s.ranks.0 s.ranks.1);
      sound = sound_given sets pairs es s.sound distinct (λ p c. ((base p c).0, (base p c).2));
      settled = settled_given sets pairs es s.ranks.0 s.ranks.1 distinct (λ p c. ((base p c).0, (base p c).1)) unread cache s.settled;
      mirrors = mirrors_given sets pairs es users s.mirrors (λ p c. (base p c).1);
      spare_unset = s.spare_unset ∙ ap (λ n. replicate n false) (sym long);
      newly_length = w ∙ sym long;
      newly_few = omega arith;
      work_length = k ∙ sym long;
      few = omega (arith, s.few);
      counted = s.counted ∙ sym (count_given sets pairs es base);
      operands_few = s.operands_few;
    }
