-- Classes are found by their simple names.
use Rattle.std.proofs.Common.{◌≡◌, ℕ, Bool, true, List, Option, Some, None, refl, sym, ap, ◌∙◌}
use Rattle.std.specs.Prelude.{IfSome, IfNone}
use Rattle.std.specs.List.{find, list_all}
use Rattle.std.specs.Str.{bytes_eq}
use Rattle.std.proofs.lemmas.Slice.Eq.{bytes_eq-Decides}
use Rattle.fx_look.proofs.TableLemmas.{find_sound, row_passes}
use Rattle.fx_kinds.specs.declared.classes.Class.{Class}
use Rattle.fx_kinds.specs.declared.classes.Class.TheVariants as class
use Rattle.fx_kinds.specs.Classes.{name_of, classes}

-- each class is the first of its name
first_named : (c : Class) → find (λ k. bytes_eq (name_of k) (name_of c)) classes ≡ Some c
first_named class.Pane = refl
first_named class.Region = refl
first_named class.HBox = refl
first_named class.VBox = refl
first_named class.BorderPane = refl
first_named class.StackPane = refl
first_named class.AnchorPane = refl
first_named class.GridPane = refl
first_named class.Label = refl
first_named class.Button = refl
first_named class.ColumnConstraints = refl
first_named class.RowConstraints = refl
first_named class.Priority = refl
first_named class.Insets = refl
first_named class.Pos = refl
first_named class.HPos = refl
first_named class.VPos = refl
first_named class.Font = refl
first_named class.Url = refl
first_named class.String = refl
first_named class.Integer = refl
first_named class.Double = refl
first_named class.Boolean = refl

pub class_found : (text : List ℕ) (o : Option Class) → o ≡ find (λ k. bytes_eq (name_of k) text) classes → IfSome o (λ c. name_of c ≡ text)
class_found text None e = tt
class_found text (Some c) e = (bytes_eq-Decides (name_of c) text).0 ((find_sound (λ k. bytes_eq (name_of k) text) classes c (sym e)).1)

pub class_none : (text : List ℕ) (o : Option Class) → o ≡ find (λ k. bytes_eq (name_of k) text) classes → IfNone o ((c : Class) → name_of c ≡ text → ⊥)
class_none text None e = λ c n. let some : None ≡ Some c = e ∙ ap (λ t. find (λ k. bytes_eq (name_of k) t) classes) (sym n) ∙ first_named c in cc
class_none text (Some c) e = tt

pub same_class : (c d : Class) → name_of c ≡ name_of d → c ≡ d
same_class c d n =
    let both : Some c ≡ Some d = sym (first_named c) ∙ ap (λ t. find (λ k. bytes_eq (name_of k) t) classes) n ∙ first_named d in cc

-- what all classes of the list pass, each class passes
pub by_class : (p : Class → Bool) → list_all p classes ≡ true → (c : Class) → p c ≡ true
by_class p all c = row_passes p classes c all (find_sound (λ k. bytes_eq (name_of k) (name_of c)) classes c (first_named c)).0
