-- The function's verdict is the grammar's.
use Rattle.std.proofs.Common.{◌≡◌, ℕ, true, false, cond, List, [], ◌∷◌, ◌++◌, Option, Some, None, refl, sym, ◌∙◌, subst, append_assoc, append-nil}
use Rattle.std.proofs.lemmas.Bool.{and_parts}
use lib.Dec.{leb}
use Rattle.fx_base.specs.Positions.{start, after, after_all}
use Rattle.fx_doc_grammar.specs.Grammar.{Reading, Spells}
use Rattle.fx_doc_grammar.specs.Machine.{State, Mode, Naming, initial, step, run, answer, is_deep, is_long, is_naming, stack_depth, sign_position}
use Rattle.fx_doc_grammar.specs.Beginnings.{IsWithinLimits}
use Rattle.fx_doc_grammar.specs.Verdicts.{Verdict, Deep, Long, IsVerdict}
use Rattle.fx_doc_grammar.specs.Judging.{element_position, judged, stepped, ended_verdict, verdict_from, verdict_of}
use Rattle.fx_base.specs.declared.positions.Position.{Position}
use Rattle.fx_doc_grammar.proofs.Advance.{sound}
use Rattle.fx_doc_grammar.proofs.Bounds.{within_start}
use Rattle.fx_doc_grammar.proofs.Turns.{run_more, place_more, limits_more, stopped_here, stopped_end, too_long, too_deep}

-- what has been said so far, with the state and the place that it leads to
pub record Said (said : List ℕ) (p : Position) (s : State) : Type 0 where
  pub ran : run start (Some initial) said ≡ Some s
  pub at : p ≡ after_all start said
  pub within : IsWithinLimits said
  pub short : is_long s ≡ false

ended_is : (text said : List ℕ) (p : Position) (s : State) (o : Option Reading) → text ≡ said → Said said p s → answer s ≡ o → IsVerdict text (ended_verdict p o)
ended_is text said p s None t k e = stopped_end text said p s t k.ran k.at k.within e
ended_is text said p s (Some n) t k e = (subst (λ y. Spells y n) (sym t) (sound said s n k.ran e), subst IsWithinLimits (sym t) k.within)

naming_mode : (m : Mode) (p : Position) → is_naming m ≡ true → (n : List ℕ) × (m ≡ Naming (element_position p m) n)
naming_mode (Naming q n) p h = (n, refl)
naming_mode m p h = absurd (cc)

deep_is : (text said : List ℕ) (c : ℕ) (more : List ℕ) (p : Position) (s t : State) → text ≡ said ++ (c ∷ more) → Said said p s → step p s c ≡ Some t → is_deep t ≡ true
    → IsVerdict text (Deep (element_position p t.mode))
deep_is text said c more p s t e k q d =
    let b = and_parts (is_naming t.mode) (leb 128 (stack_depth t.held.stack)) d in
    let n = naming_mode t.mode p b.0 in
    too_deep text said c more p (element_position p t.mode) s t n.0 e k.ran k.at k.within q n.1 b.1

-- one character more, if what follows it is judged rightly
further : (text said : List ℕ) (c : ℕ) (cs : List ℕ) (p : Position) (s t : State) (next : Verdict) → text ≡ said ++ (c ∷ cs) → Said said p s → step p s c ≡ Some t
    → (Said (said ++ (c ∷ [])) (after p c) t → IsVerdict text next) → IsVerdict text (judged p s t next)
further text said c cs p s t next e k q go_on =
    (elim (is_long t) as (λ b. is_long t ≡ b → IsVerdict text (cond b (Long (sign_position p s.mode)) (cond (is_deep t) (Deep (element_position p t.mode)) next))) [
      | true ↦ λ l. too_long text said c cs p (sign_position p s.mode) s t e k.ran k.at k.within q k.short l refl
      | false ↦ λ l. (elim (is_deep t) as (λ b. is_deep t ≡ b → IsVerdict text (cond b (Deep (element_position p t.mode)) next)) [
        | true ↦ λ d. deep_is text said c cs p s t e k q d
        | false ↦ λ d. go_on (record {
          ran = run_more said c p s t k.ran k.at q;
          at = place_more said c p k.at;
          within = limits_more said c p s t k.ran k.at q k.within d l;
          short = l;
        })
      ]) refl
    ]) refl

step_is : (text said : List ℕ) (c : ℕ) (cs : List ℕ) (p : Position) (s : State) (o : Option State) (next : Verdict) → text ≡ said ++ (c ∷ cs) → Said said p s → step p s c ≡ o
    → ((t : State) → o ≡ Some t → Said (said ++ (c ∷ [])) (after p c) t → IsVerdict text next) → IsVerdict text (stepped p s o next)
step_is text said c cs p s None next e k q go_on = stopped_here text said c cs p p s e k.ran k.at k.within q refl
step_is text said c cs p s (Some t) next e k q go_on = further text said c cs p s t next e k q (go_on t refl)

pub verdict_is : (text said rest : List ℕ) (p : Position) (s : State) → text ≡ said ++ rest → Said said p s → IsVerdict text (verdict_from p (Some s) rest)
unfolding verdict_from
verdict_is text said [] p s e k = ended_is text said p s (answer s) (e ∙ append-nil said) k refl
verdict_is text said (c ∷ cs) p s e k =
    step_is text said c cs p s (step p s c) (verdict_from (after p c) (step p s c) cs) e k refl
    (λ t q said_more. subst (λ o. IsVerdict text (verdict_from (after p c) o cs)) (sym q)
    (verdict_is text (said ++ (c ∷ [])) cs (after p c) t (e ∙ sym (append_assoc said (c ∷ []) cs)) said_more))

nothing_said : Said [] start initial
nothing_said = record { ran = refl; at = refl; within = within_start; short = refl }

pub judging : (text : List ℕ) → IsVerdict text (verdict_of text)
judging text = verdict_is text [] text start initial refl nothing_said
