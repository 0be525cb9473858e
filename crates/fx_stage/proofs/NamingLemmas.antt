-- Actions by their names.
use Rattle.std.proofs.Common.{◌≡◌, ℕ, Bool, true, false, cond, List, [], ◌∷◌, ◌++◌, Option, Some, None, Result, Ok, Err, OnErr, OnOk, is_some, refl, sym, ap, subst, inl}
use Rattle.std.specs.Borrow.{Bor}
use Rattle.std.specs.Map.{lookup}
use Rattle.std.specs.Option.{option_copied}
use Rattle.std.specs.Str.{bytes_eq}
use Rattle.fx_script_commands.specs.Requests.{Numbered, Requests, requests_of}
use Rattle.fx_stage_types.specs.declared.answers.StageError.TheVariants.{Refused}
use Rattle.fx_stage_types.specs.declared.refusals.Refusal.{Refusal}
use Rattle.fx_stage_types.specs.declared.refusals.Refusal.TheVariants as word
use Rattle.fx_stage_model.specs.Answers.{Taken, silently, unless}
use Rattle.fx_stage_model.specs.Lines.{define, lines_of, with_action}
use Rattle.fx_stage_model.specs.Taking.{IsTaken}
use Rattle.fx_stage_model.specs.World.{World}
use Rattle.fx_stage_words.specs.Told.{plain_as}
use Rattle.fx_stage.proofs.GraphLemmas.{plain_answered}

pub lines_back : (lines : List Numbered) → lines_of (requests_of lines) ≡ lines
lines_back [] = refl
lines_back (l ∷ lines) = ap (λ (rest : List Numbered). l ∷ rest) (lines_back lines)

module _ (name : List ℕ) (lines : Requests) (world : World) where
  abbrev by_known : Bool → Result Taken Refusal
  by_known known = unless known word.Exists (silently (with_action name lines world))

  pub define_refused : is_some (lookup (bytes_eq name) world.names.actions) ≡ true
      → IsTaken (define name lines world) world world (Err (Refused word.Exists))
  unfolding define
  define_refused known =
      subst (λ (r : Result Taken Refusal). IsTaken r world world (Err (Refused word.Exists))) (sym (ap by_known known))
      (refl, inl refl)

  pub define_taken : {E : Type 0} (now : World) (answer : Result (Unit {0}) E)
      → is_some (lookup (bytes_eq name) world.names.actions) ≡ false
      → OnOk answer (now ≡ with_action name lines world) → OnErr answer (now ≡ world)
      → IsTaken (define name lines world) world now (plain_as answer)
  unfolding define
  define_taken now answer new ok err =
      subst (λ (r : Result Taken Refusal). IsTaken r world now (plain_as answer)) (sym (ap by_known new))
      (plain_answered world (with_action name lines world) now answer ok err)

-- what follows where a call succeeds, and where it fails
pub on_ok : {T E : Type 0} {A B : Type 0} (r : Result T E) → OnOk r A → (A → B) → OnOk r B
on_ok (Ok t) a more = more a
on_ok (Err e) a more = tt

pub on_err : {T E : Type 0} {A B : Type 0} (r : Result T E) → OnErr r A → (A → B) → OnErr r B
on_err (Ok t) a more = tt
on_err (Err e) a more = more a

pub copied_some : {X : Type 0} (o : Option (Bor X)) → is_some (option_copied o) ≡ is_some o
copied_some None = refl
copied_some (Some x) = refl
