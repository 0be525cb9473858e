-- One turn of a reader over a text: the machine's next state, or the fault that the text has there.
-- Above the lemmas on prefixes and limits; code's loop cites these.
use Rattle.std.proofs.Common.{◌≡◌, ℕ, true, false, List, [], ◌∷◌, ◌++◌, Option, Some, None, sym, ◌∙◌, ap, subst}
use lib.Dec.{leb}
use Rattle.fx_base.specs.Positions.{start, after, after_all}
use Rattle.fx_doc_grammar.specs.Machine.{State, Naming, initial, step, next, run, answer, is_deep, is_long, stack_depth, sign_position}
use Rattle.fx_doc_grammar.specs.Beginnings.{PassesLength, IsWithinLimits, IsTooDeep, IsTooLong, IsStopped}
use Rattle.fx_doc_grammar.proofs.Runs.{after-append, run-append}
use Rattle.fx_doc_grammar.proofs.Advance.{run_reached}
use Rattle.fx_doc_grammar.proofs.Prefixes.{stop_here, stop_end, stop_here_front, stop_end_front}
use Rattle.fx_doc_grammar.proofs.Limits.{long_step, deep_step}
use Rattle.fx_doc_grammar.proofs.Bounds.{within_more}
use Rattle.fx_base.specs.declared.positions.Position.{Position}

pub run_more : (said : List ℕ) (c : ℕ) (p : Position) (s s' : State) → run start (Some initial) said ≡ Some s → p ≡ after_all start said → step p s c ≡ Some s' → run start (Some initial) (said ++ (c ∷ [])) ≡ Some s'
run_more said c p s s' h q e =
    run-append start (Some initial) said (c ∷ [])
    ∙ (ap (λ (o : Option State). next (after_all start said) o c) h ∙ (ap (λ (y : Position). step y s c) (sym q) ∙ e))

pub place_more : (said : List ℕ) (c : ℕ) (p : Position) → p ≡ after_all start said → after p c ≡ after_all start (said ++ (c ∷ []))
place_more said c p q = ap (λ (y : Position). after y c) q ∙ sym (after-append start said (c ∷ []))

pub limits_more : (said : List ℕ) (c : ℕ) (p : Position) (s s' : State) → run start (Some initial) said ≡ Some s → p ≡ after_all start said → step p s c ≡ Some s' → IsWithinLimits said → is_deep s' ≡ false → is_long s' ≡ false → IsWithinLimits (said ++ (c ∷ []))
limits_more said c p s s' h q e w d l = within_more said c s' w (run_more said c p s s' h q e) d l

pub stopped_here : (text said : List ℕ) (c : ℕ) (more : List ℕ) (p r : Position) (s : State) → text ≡ said ++ (c ∷ more) → run start (Some initial) said ≡ Some s → p ≡ after_all start said → IsWithinLimits said → step p s c ≡ None → r ≡ p → IsStopped text r
stopped_here text said c more p r s t h q w e k = subst (IsStopped text) (sym k) (record { markup = stop_here text said c more p s t q h e; within = subst IsWithinLimits (stop_here_front text said c more p s t q h e) w })

pub stopped_end : (text said : List ℕ) (p : Position) (s : State) → text ≡ said → run start (Some initial) said ≡ Some s → p ≡ after_all start said → IsWithinLimits said → answer s ≡ None → IsStopped text p
stopped_end text said p s t h q w e = subst (λ y. IsStopped y p) (sym t) (record { markup = stop_end said p s q h e; within = subst IsWithinLimits (stop_end_front said p s q h e) w })

pub too_long : (text said : List ℕ) (c : ℕ) (more : List ℕ) (p r : Position) (s s' : State) → text ≡ said ++ (c ∷ more) → run start (Some initial) said ≡ Some s → p ≡ after_all start said → IsWithinLimits said → step p s c ≡ Some s' → is_long s ≡ false → is_long s' ≡ true → r ≡ sign_position p s.mode → IsTooLong text r
too_long text said c more p r s s' t h q w e n l k = record {
  front = said;
  last = c;
  more = more;
  split = t;
  before = w;
  passes = subst (λ (y : Position). PassesLength (said ++ (c ∷ [])) y) (ap (λ (y : Position). sign_position y s.mode) (sym q) ∙ sym k)
      (long_step said s c s' (run_reached said s h) (ap (λ (y : Position). step y s c) (sym q) ∙ e) n l);
}

pub too_deep : (text said : List ℕ) (c : ℕ) (more : List ℕ) (p r : Position) (s s' : State) (n : List ℕ) → text ≡ said ++ (c ∷ more) → run start (Some initial) said ≡ Some s → p ≡ after_all start said → IsWithinLimits said → step p s c ≡ Some s' → s'.mode ≡ Naming r n → leb 128 (stack_depth s'.held.stack) ≡ true → IsTooDeep text r
too_deep text said c more p r s s' n t h q w e m d = record {
  front = said;
  last = c;
  more = more;
  split = t;
  before = w;
  passes = deep_step (said ++ (c ∷ [])) s' r n (run_reached (said ++ (c ∷ [])) s' (run_more said c p s s' h q e)) m d;
}
