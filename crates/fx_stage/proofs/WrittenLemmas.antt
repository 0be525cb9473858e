-- Which listeners are there after a change of the store, and what is written of them.
use Rattle.std.proofs.Common.{◌≡◌, ◌≤◌, ◌+◌, ℕ, Bool, true, false, cond, eqb, ◌||◌, ◌==◌, List, [], ◌∷◌, ◌++◌, filter, All, Option, Some, None, arith, refl, sym, ◌∙◌, ap, subst, true≢false}
use Rattle.std.specs.List.{list_any}
use Rattle.std.specs.Map.{lookup}
use Rattle.std.proofs.lemmas.Bool.{eqb-true}
use Rattle.std.proofs.lemmas.List.Elements.{All-head, All-tail}
use Rattle.std.proofs.lemmas.List.Folds.{list_any-append}
use Rattle.fx_graph_model.specs.Uses.{bound_in}
use Rattle.fx_listen.specs.declared.entries.Listener.{Listener}
use Rattle.fx_listen.specs.Listening.{without_first}
use Rattle.fx_store_model.specs.declared.changes.Change.{Change}
use Rattle.fx_store_model.specs.declared.changes.Change.TheVariants.{Set, Publish, Bind, Unbind, Pair, Unpair, Listen, Unlisten, Forget}
use Rattle.fx_store_model.specs.Making.{made, made_unbind, new_listener}
use Rattle.fx_store_model.specs.Stored.{Stored}
use Rattle.fx_stage_model.specs.World.{is_listening, still_written}

abbrev Written : Type 0
Written = List (ℕ × List (List ℕ))

or_right : (t s : Bool) → s ≡ true → (t || s) ≡ true
or_right true s e = refl
or_right false s e = e

or_kept : (t r s : Bool) → (r ≡ true → s ≡ true) → (t || r) ≡ true → (t || s) ≡ true
or_kept true r s more e = refl
or_kept false r s more e = more e

or_either : (a b c : Bool) → (a ≡ true → c ≡ true) → (b ≡ true → c ≡ true) → (a || b) ≡ true → c ≡ true
or_either true b c one other e = one refl
or_either false b c one other e = other e

pub any_kept : {X : Type 0} (test keep : X → Bool) (xs : List X) → list_any test (filter keep xs) ≡ true → list_any test xs ≡ true
any_kept {X} test keep [] e = e
any_kept {X} test keep (x ∷ xs) e = by_keep (keep x) (any_kept test keep xs) e
  where
    by_keep : (k : Bool) → (list_any test (filter keep xs) ≡ true → list_any test xs ≡ true)
        → list_any test (cond k (x ∷ filter keep xs) (filter keep xs)) ≡ true → (test x || list_any test xs) ≡ true
    by_keep true more e = or_kept (test x) (list_any test (filter keep xs)) (list_any test xs) more e
    by_keep false more e = or_right (test x) (list_any test xs) (more e)

any_without : (test gone : Listener → Bool) (ls : List Listener) → list_any test (without_first gone ls) ≡ true → list_any test ls ≡ true
any_without test gone [] e = e
any_without test gone (l ∷ ls) e = by_gone (gone l) (any_without test gone ls) e
  where
    by_gone : (g : Bool) → (list_any test (without_first gone ls) ≡ true → list_any test ls ≡ true)
        → list_any test (cond g ls (l ∷ without_first gone ls)) ≡ true → (test l || list_any test ls) ≡ true
    by_gone true more e = or_right (test l) (list_any test ls) e
    by_gone false more e = or_kept (test l) (list_any test (without_first gone ls)) (list_any test ls) more e

-- a listener that is put among others
module _ (new : Listener) (ls : List Listener) (test : Listener → Bool) (before behind : Listener → Bool) where
  pub any_placed : list_any test (filter before ls ++ new ∷ filter behind ls) ≡ true → test new ≡ false → list_any test ls ≡ true
  any_placed e other =
      or_either (list_any test (filter before ls)) (test new || list_any test (filter behind ls)) (list_any test ls)
      (any_kept test before ls)
      (λ rest. any_kept test behind ls (subst (λ (b : Bool). (b || list_any test (filter behind ls)) ≡ true) other rest))
      (sym (list_any-append test (filter before ls) (new ∷ filter behind ls)) ∙ e)

  pub any_new : test new ≡ true → list_any test (filter before ls ++ new ∷ filter behind ls) ≡ true
  any_new passes =
      list_any-append test (filter before ls) (new ∷ filter behind ls)
      ∙ or_right (list_any test (filter before ls)) (test new || list_any test (filter behind ls))
      (ap (λ (b : Bool). b || list_any test (filter behind ls)) passes)

other_number : (number n : ℕ) → n ≤ number → (number + 1 == n) ≡ false
other_number number n small = by_test (eqb (number + 1) n) refl
  where
    by_test : (b : Bool) → eqb (number + 1) n ≡ b → b ≡ false
    by_test true e = absurd (let same : number + 1 ≡ n = eqb-true (number + 1) n e in omega (arith, same, small))
    by_test false e = refl

-- a listener whose number was given before is there after a change only if it was there before
pub still_from : (change : Change) (stored : Stored) (n : ℕ) → n ≤ stored.given
    → is_listening (made change stored).listeners n ≡ true → is_listening stored.listeners n ≡ true
unfolding made
still_from (Set name value) stored n small e = e
still_from (Publish pairs) stored n small e = e
still_from (Bind name formula operands) stored n small e = e
still_from (Unbind name) stored n small e = by_test (bound_in stored.entries name.0) refl e
  where
    by_test : (b : Bool) → bound_in stored.entries name.0 ≡ b → is_listening (made_unbind name.0 stored).listeners n ≡ true
        → is_listening stored.listeners n ≡ true
    by_test true e = rw e (λ there. there)
    by_test false e = rw e (λ there. there)
still_from (Pair one other) stored n small e = e
still_from (Unpair one other) stored n small e = e
still_from (Listen name kind owner tag) stored n small e =
    any_placed (new_listener (stored.given + 1) name kind owner tag) stored.listeners (λ (l : Listener). l.number == n) _ _ e
    (other_number stored.given n small)
still_from (Unlisten name kind owner tag) stored n small e = any_without (λ (l : Listener). l.number == n) _ stored.listeners e
still_from (Forget names) stored n small e = any_kept (λ (l : Listener). l.number == n) _ stored.listeners e

-- numbers only rise
pub given_rises : (change : Change) (stored : Stored) → stored.given ≤ (made change stored).given
unfolding made
given_rises (Set name value) stored = omega arith
given_rises (Publish pairs) stored = omega arith
given_rises (Bind name formula operands) stored = omega arith
given_rises (Unbind name) stored = by_test (bound_in stored.entries name.0) refl
  where
    by_test : (b : Bool) → bound_in stored.entries name.0 ≡ b → stored.given ≤ (made_unbind name.0 stored).given
    by_test true e = rw e (omega arith)
    by_test false e = rw e (omega arith)
given_rises (Pair one other) stored = omega arith
given_rises (Unpair one other) stored = omega arith
given_rises (Listen name kind owner tag) stored = omega arith
given_rises (Unlisten name kind owner tag) stored = omega arith
given_rises (Forget names) stored = omega arith

-- what was written of listeners that are still there is found in what was seen of it before
pub still_twice : (old new : List Listener) (given : ℕ) (ws : Written)
    → ((n : ℕ) → n ≤ given → is_listening new n ≡ true → is_listening old n ≡ true)
    → All (λ (e : ℕ × List (List ℕ)). e.0 ≤ given) ws
    → still_written new (still_written old ws) ≡ still_written new ws
still_twice old new given [] from small = refl
still_twice old new given (e ∷ ws) from small =
    by_old (is_listening old e.0) (is_listening new e.0) refl
    (from e.0 (All-head (λ (e : ℕ × List (List ℕ)). e.0 ≤ given) e ws small))
    (still_twice old new given ws from (All-tail (λ (e : ℕ × List (List ℕ)). e.0 ≤ given) e ws small))
  where
    by_old : (o n : Bool) → is_listening new e.0 ≡ n → (n ≡ true → o ≡ true)
        → still_written new (still_written old ws) ≡ still_written new ws
        → still_written new (cond o (e ∷ still_written old ws) (still_written old ws))
        ≡ cond n (e ∷ still_written new ws) (still_written new ws)
    by_old true true here only again = rw here (ap (λ (rest : Written). e ∷ rest) again)
    by_old true false here only again = rw here again
    by_old false true here only again = absurd (true≢false (sym (only refl)))
    by_old false false here only again = again

-- what is seen of a listener's path
pub lookup_written : (listeners : List Listener) (n : ℕ) (ws : Written)
    → lookup (eqb n) (still_written listeners ws) ≡ cond (is_listening listeners n) (lookup (eqb n) ws) None
lookup_written listeners n [] = by_flag (is_listening listeners n)
  where
    by_flag : (b : Bool) → ◌≡◌ {A = Option (List (List ℕ))} None (cond b None None)
    by_flag true = refl
    by_flag false = refl
lookup_written listeners n (e ∷ ws) =
    by_key (is_listening listeners e.0) refl (eqb n e.0) refl (is_listening listeners n) refl (lookup_written listeners n ws)
  where
    by_key : (o : Bool) → is_listening listeners e.0 ≡ o → (k : Bool) → eqb n e.0 ≡ k → (l : Bool) → is_listening listeners n ≡ l
        → lookup (eqb n) (still_written listeners ws) ≡ cond (is_listening listeners n) (lookup (eqb n) ws) None
        → lookup (eqb n) (cond o (e ∷ still_written listeners ws) (still_written listeners ws))
        ≡ cond l (cond k (Some e.1) (lookup (eqb n) ws)) None
    by_key true here true is l listens rest =
        let same : n ≡ e.0 = eqb-true n e.0 is in
        let both : l ≡ true = sym listens ∙ ap (is_listening listeners) same ∙ here in
        ap (λ (b : Bool). cond b (Some e.1) (lookup (eqb n) (still_written listeners ws))) is
        ∙ sym (ap (λ (b : Bool). cond b (Some e.1) None) both)
    by_key true here false is l listens rest =
        ap (λ (b : Bool). cond b (Some e.1) (lookup (eqb n) (still_written listeners ws))) is ∙ rest
        ∙ ap (λ (b : Bool). cond b (lookup (eqb n) ws) None) listens
    by_key false here true is l listens rest =
        let same : n ≡ e.0 = eqb-true n e.0 is in
        let none : is_listening listeners n ≡ false = ap (is_listening listeners) same ∙ here in
        rest ∙ ap (λ (b : Bool). cond b (lookup (eqb n) ws) None) none
        ∙ sym (ap (λ (b : Bool). cond b (Some e.1) None) (sym listens ∙ none))
    by_key false here false is l listens rest = rest ∙ ap (λ (b : Bool). cond b (lookup (eqb n) ws) None) listens
