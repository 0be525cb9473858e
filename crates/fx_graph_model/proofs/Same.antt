-- The test of two values decides their equality.
use Rattle.std.proofs.Common.{◌≡◌, ℕ, Bool, true, false, ap, ◌∙◌, refl}
use Rattle.std.specs.Bool.{Decides, beq}
use Rattle.fx_base.proofs.GeometryLemmas.{Decides-sides}
use Rattle.std.specs.Cmp.Lexicographic.{bytes_decides}
use Rattle.std.proofs.lemmas.Bool.Decides.{Decides-int_eq, Decides-eqb, Decides-and, Decides-like}
use Rattle.fx_base.specs.declared.color.Color.{Color as Paint}
use Rattle.fx_base.specs.declared.kinds.Family.{Family}
use Rattle.fx_base.specs.declared.kinds.Family.TheVariants as family
use Rattle.fx_base.specs.declared.kinds.Kind.{Kind}
use Rattle.fx_base.specs.declared.kinds.Kind.TheVariants as kind
use Rattle.fx_base.specs.declared.values.Value.{Value}
use Rattle.fx_base.specs.declared.values.Value.TheVariants.{Int, Bool as Truth, Text, Choice, Color, Sides}
use Rattle.fx_graph_model.specs.Equality.{same_family, same_kind, same_color, same_value}

yes : {A : Type 0} {x : A} → Decides true (x ≡ x)
yes = (λ _. refl, λ _. refl)

pub Decides-family : (one other : Family) → Decides (same_family one other) (one ≡ other)
Decides-family family.Pos family.Pos = yes
Decides-family family.Pos family.Priority = (λ h. cc, λ h. cc)
Decides-family family.Pos family.HPos = (λ h. cc, λ h. cc)
Decides-family family.Pos family.VPos = (λ h. cc, λ h. cc)
Decides-family family.Priority family.Pos = (λ h. cc, λ h. cc)
Decides-family family.Priority family.Priority = yes
Decides-family family.Priority family.HPos = (λ h. cc, λ h. cc)
Decides-family family.Priority family.VPos = (λ h. cc, λ h. cc)
Decides-family family.HPos family.Pos = (λ h. cc, λ h. cc)
Decides-family family.HPos family.Priority = (λ h. cc, λ h. cc)
Decides-family family.HPos family.HPos = yes
Decides-family family.HPos family.VPos = (λ h. cc, λ h. cc)
Decides-family family.VPos family.Pos = (λ h. cc, λ h. cc)
Decides-family family.VPos family.Priority = (λ h. cc, λ h. cc)
Decides-family family.VPos family.HPos = (λ h. cc, λ h. cc)
Decides-family family.VPos family.VPos = yes

pub Decides-kind : (one other : Kind) → Decides (same_kind one other) (one ≡ other)
Decides-kind kind.Int kind.Int = yes
Decides-kind kind.Int kind.Bool = (λ h. cc, λ h. cc)
Decides-kind kind.Int kind.Text = (λ h. cc, λ h. cc)
Decides-kind kind.Int (kind.Choice b) = (λ h. cc, λ h. cc)
Decides-kind kind.Int kind.Color = (λ h. cc, λ h. cc)
Decides-kind kind.Int kind.Sides = (λ h. cc, λ h. cc)
Decides-kind kind.Bool kind.Int = (λ h. cc, λ h. cc)
Decides-kind kind.Bool kind.Bool = yes
Decides-kind kind.Bool kind.Text = (λ h. cc, λ h. cc)
Decides-kind kind.Bool (kind.Choice b) = (λ h. cc, λ h. cc)
Decides-kind kind.Bool kind.Color = (λ h. cc, λ h. cc)
Decides-kind kind.Bool kind.Sides = (λ h. cc, λ h. cc)
Decides-kind kind.Text kind.Int = (λ h. cc, λ h. cc)
Decides-kind kind.Text kind.Bool = (λ h. cc, λ h. cc)
Decides-kind kind.Text kind.Text = yes
Decides-kind kind.Text (kind.Choice b) = (λ h. cc, λ h. cc)
Decides-kind kind.Text kind.Color = (λ h. cc, λ h. cc)
Decides-kind kind.Text kind.Sides = (λ h. cc, λ h. cc)
Decides-kind (kind.Choice a) kind.Int = (λ h. cc, λ h. cc)
Decides-kind (kind.Choice a) kind.Bool = (λ h. cc, λ h. cc)
Decides-kind (kind.Choice a) kind.Text = (λ h. cc, λ h. cc)
Decides-kind (kind.Choice a) (kind.Choice b) =
    Decides-like _ (λ (e : a ≡ b). ap kind.Choice e) (λ (e : kind.Choice a ≡ kind.Choice b). cc) (Decides-family a b)
Decides-kind (kind.Choice a) kind.Color = (λ h. cc, λ h. cc)
Decides-kind (kind.Choice a) kind.Sides = (λ h. cc, λ h. cc)
Decides-kind kind.Color kind.Int = (λ h. cc, λ h. cc)
Decides-kind kind.Color kind.Bool = (λ h. cc, λ h. cc)
Decides-kind kind.Color kind.Text = (λ h. cc, λ h. cc)
Decides-kind kind.Color (kind.Choice b) = (λ h. cc, λ h. cc)
Decides-kind kind.Color kind.Color = yes
Decides-kind kind.Color kind.Sides = (λ h. cc, λ h. cc)
Decides-kind kind.Sides kind.Int = (λ h. cc, λ h. cc)
Decides-kind kind.Sides kind.Bool = (λ h. cc, λ h. cc)
Decides-kind kind.Sides kind.Text = (λ h. cc, λ h. cc)
Decides-kind kind.Sides (kind.Choice b) = (λ h. cc, λ h. cc)
Decides-kind kind.Sides kind.Color = (λ h. cc, λ h. cc)
Decides-kind kind.Sides kind.Sides = yes

four_colors : (a b : Paint) → (a.r ≡ b.r) × ((a.g ≡ b.g) × ((a.b ≡ b.b) × (a.a ≡ b.a))) → a ≡ b
four_colors a b e =
    let make : ℕ → ℕ → ℕ → ℕ → Paint = λ r g b a. record { r = r; g = g; b = b; a = a } in
    ap (λ r. make r a.g a.b a.a) e.0
    ∙ (ap (λ g. make b.r g a.b a.a) e.1.0
    ∙ (ap (λ c. make b.r b.g c a.a) e.1.1.0
    ∙ ap (λ o. make b.r b.g b.b o) e.1.1.1))

pub Decides-color : (a b : Paint) → Decides (same_color a b) (a ≡ b)
Decides-color a b =
    Decides-like _ (four_colors a b)
    (λ (e : a ≡ b). (ap (λ (c : Paint). c.r) e, (ap (λ (c : Paint). c.g) e, (ap (λ (c : Paint). c.b) e, ap (λ (c : Paint). c.a) e))))
    (Decides-and _ _ (Decides-eqb a.r b.r)
    (Decides-and _ _ (Decides-eqb a.g b.g)
    (Decides-and _ _ (Decides-eqb a.b b.b) (Decides-eqb a.a b.a))))

Decides-truth : (a b : Bool) → Decides (beq a b) (a ≡ b)
Decides-truth true true = yes
Decides-truth true false = (λ h. cc, λ h. cc)
Decides-truth false true = (λ h. cc, λ h. cc)
Decides-truth false false = yes

pub Decides-value : (one other : Value) → Decides (same_value one other) (one ≡ other)
unfolding same_value
Decides-value (Int a) (Int b) = Decides-like _ (λ (e : a ≡ b). ap Int e) (λ (e : Int a ≡ Int b). cc) (Decides-int_eq a b)
Decides-value (Int a) (Truth b) = (λ h. cc, λ h. cc)
Decides-value (Int a) (Text b) = (λ h. cc, λ h. cc)
Decides-value (Int a) (Choice g j) = (λ h. cc, λ h. cc)
Decides-value (Int a) (Color b) = (λ h. cc, λ h. cc)
Decides-value (Int a) (Sides b) = (λ h. cc, λ h. cc)
Decides-value (Truth a) (Int b) = (λ h. cc, λ h. cc)
Decides-value (Truth a) (Truth b) =
    Decides-like _ (λ (e : a ≡ b). ap Truth e) (λ (e : Truth a ≡ Truth b). cc) (Decides-truth a b)
Decides-value (Truth a) (Text b) = (λ h. cc, λ h. cc)
Decides-value (Truth a) (Choice g j) = (λ h. cc, λ h. cc)
Decides-value (Truth a) (Color b) = (λ h. cc, λ h. cc)
Decides-value (Truth a) (Sides b) = (λ h. cc, λ h. cc)
Decides-value (Text a) (Int b) = (λ h. cc, λ h. cc)
Decides-value (Text a) (Truth b) = (λ h. cc, λ h. cc)
Decides-value (Text a) (Text b) = Decides-like _ (λ (e : a ≡ b). ap Text e) (λ (e : Text a ≡ Text b). cc) (bytes_decides a b)
Decides-value (Text a) (Choice g j) = (λ h. cc, λ h. cc)
Decides-value (Text a) (Color b) = (λ h. cc, λ h. cc)
Decides-value (Text a) (Sides b) = (λ h. cc, λ h. cc)
Decides-value (Choice f i) (Int b) = (λ h. cc, λ h. cc)
Decides-value (Choice f i) (Truth b) = (λ h. cc, λ h. cc)
Decides-value (Choice f i) (Text b) = (λ h. cc, λ h. cc)
Decides-value (Choice f i) (Choice g j) =
    Decides-like _ (λ (e : (f ≡ g) × (i ≡ j)). ap (λ k. Choice k i) e.0 ∙ ap (λ k. Choice g k) e.1)
    (λ (e : Choice f i ≡ Choice g j). (cc, cc))
    (Decides-and _ _ (Decides-family f g) (Decides-eqb i j))
Decides-value (Choice f i) (Color b) = (λ h. cc, λ h. cc)
Decides-value (Choice f i) (Sides b) = (λ h. cc, λ h. cc)
Decides-value (Color a) (Int b) = (λ h. cc, λ h. cc)
Decides-value (Color a) (Truth b) = (λ h. cc, λ h. cc)
Decides-value (Color a) (Text b) = (λ h. cc, λ h. cc)
Decides-value (Color a) (Choice g j) = (λ h. cc, λ h. cc)
Decides-value (Color a) (Color b) = Decides-like _ (λ (e : a ≡ b). ap Color e) (λ (e : Color a ≡ Color b). cc) (Decides-color a b)
Decides-value (Color a) (Sides b) = (λ h. cc, λ h. cc)
Decides-value (Sides a) (Int b) = (λ h. cc, λ h. cc)
Decides-value (Sides a) (Truth b) = (λ h. cc, λ h. cc)
Decides-value (Sides a) (Text b) = (λ h. cc, λ h. cc)
Decides-value (Sides a) (Choice g j) = (λ h. cc, λ h. cc)
Decides-value (Sides a) (Color b) = (λ h. cc, λ h. cc)
Decides-value (Sides a) (Sides b) = Decides-like _ (λ (e : a ≡ b). ap Sides e) (λ (e : Sides a ≡ Sides b). cc) (Decides-sides a b)
