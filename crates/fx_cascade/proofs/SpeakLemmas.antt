-- What speaks for a name is just what is listed for it.
use Rattle.std.proofs.Common.{◌≡◌, ◌⊎◌, ◌+◌, ◌++◌, ℕ, zero, suc, Bool, true, false, cond, List, [], ◌∷◌, map, filter, Option, Some, None, refl, sym, ap, ◌∙◌, subst, inl, inr, arith}
use Rattle.std.specs.Prelude.{slice_get}
use Rattle.std.specs.Str.{bytes_eq}
use Rattle.std.proofs.lemmas.Bool.{cases_Bool}
use Rattle.std.proofs.lemmas.Slice.Eq.{bytes_eq-Decides}
use Rattle.fx_look.specs.declared.styles.CodeValue.{CodeValue}
use Rattle.fx_css_types.specs.declared.declarations.Declaration.{Declaration}
use Rattle.fx_css_types.specs.declared.sheets.SheetAt.{SheetAt}
use Rattle.fx_css_types.specs.declared.sheets.Candidate.{Candidate}
use Rattle.fx_cascade.specs.declared.sources.Source.{Source}
use Rattle.fx_cascade.specs.declared.sources.Source.TheVariants.{Code, Declared}
use Rattle.fx_cascade.specs.Sources.{IsCode, IsDeclared, Speaks, Voice, code_voice, declarations_of, declared_voices, rule_at, rule_voices, sources_for, voice, voices}
use Rattle.fx_cascade.proofs.GreatestLemmas.{In}

in-append : {X : Type 0} (xs ys : List X) (x : X) → In x (xs ++ ys) → In x xs ⊎ In x ys
in-append [] ys x is = inr is
in-append (y ∷ xs) ys x (inl same) = inl (inl same)
in-append (y ∷ xs) ys x (inr further) = elim (in-append xs ys x further) [ inl a ↦ inl (inr a) | inr b ↦ inr b ]

in-left : {X : Type 0} (xs ys : List X) (x : X) → In x xs → In x (xs ++ ys)
in-left [] ys x is = absurd is
in-left (y ∷ xs) ys x (inl same) = inl same
in-left (y ∷ xs) ys x (inr further) = inr (in-left xs ys x further)

in-right : {X : Type 0} (xs ys : List X) (x : X) → In x ys → In x (xs ++ ys)
in-right [] ys x is = is
in-right (y ∷ xs) ys x is = inr (in-right xs ys x is)

-- a voice that is listed for a name
record Spoken (vs : List Voice) (name : List ℕ) (source : Source) : Type 0 where
  one : Voice
  listed : In one vs
  named : one.name ≡ name
  is : source ≡ one.source

abbrev is_for : List ℕ → Voice → Bool
is_for name v = bytes_eq v.name name

-- what is listed for a name of a first voice, by whether it has the name, and of further ones
abbrev listed_if : Bool → List ℕ → Voice → List Voice → List Source
listed_if t name v vs =
    map (λ (v : Voice). v.source) (cond t (v ∷ filter (is_for name) vs) (filter (is_for name) vs))

in-for : (name : List ℕ) (vs : List Voice) (source : Source) → In source (sources_for name vs) → Spoken vs name source
in-for name [] source is = absurd is
in-for name (v ∷ vs) source is = elim (cases_Bool (bytes_eq v.name name)) [
  | inl same ↦ elim (subst (λ (t : Bool). In source (listed_if t name v vs)) same is) [
    | inl here ↦ record { one = v; listed = inl refl; named = (bytes_eq-Decides v.name name).0 same; is = here }
    | inr further ↦ let s = in-for name vs source further in
        record { one = s.one; listed = inr s.listed; named = s.named; is = s.is }
  ]
  | inr other ↦ let s = in-for name vs source (subst (λ (t : Bool). In source (listed_if t name v vs)) other is) in
      record { one = s.one; listed = inr s.listed; named = s.named; is = s.is }
]

for-in : (name : List ℕ) (vs : List Voice) (v : Voice) → In v vs → v.name ≡ name → In v.source (sources_for name vs)
for-in name [] v is named = absurd is
for-in name (w ∷ vs) v (inl same) named =
    let hit : bytes_eq w.name name ≡ true =
    (bytes_eq-Decides w.name name).1 (sym (ap (λ (x : Voice). x.name) same) ∙ named) in
    subst (λ (t : Bool). In v.source (listed_if t name w vs)) (sym hit)
    (inl (ap (λ (x : Voice). x.source) same))
for-in name (w ∷ vs) v (inr further) named = elim (cases_Bool (bytes_eq w.name name)) [
  | inl same ↦ subst (λ (t : Bool). In v.source (listed_if t name w vs)) (sym same)
      (inr (for-in name vs v further named))
  | inr other ↦ subst (λ (t : Bool). In v.source (listed_if t name w vs)) (sym other)
      (for-in name vs v further named)
]

record CodeSays (codes : List CodeValue) (v : Voice) : Type 0 where
  at : ℕ
  value : CodeValue
  given : slice_get codes at ≡ Some value
  is : v ≡ code_voice value

in-codes : (codes : List CodeValue) (v : Voice) → In v (map code_voice codes) → CodeSays codes v
in-codes [] v is = absurd is
in-codes (c ∷ cs) v (inl same) = record { at = 0; value = c; given = refl; is = same }
in-codes (c ∷ cs) v (inr further) =
    let s = in-codes cs v further in record { at = suc s.at; value = s.value; given = s.given; is = s.is }

codes-in : (codes : List CodeValue) (at : ℕ) (value : CodeValue) → slice_get codes at ≡ Some value
    → In (code_voice value) (map code_voice codes)
codes-in [] at value e = absurd (cc)
codes-in (c ∷ cs) zero value e = let same : c ≡ value = cc in inl (ap code_voice (sym same))
codes-in (c ∷ cs) (suc at) value e = inr (codes-in cs at value e)

record RuleSays (at place : ℕ) (ds : List Declaration) (v : Voice) : Type 0 where
  further : ℕ
  declaration : Declaration
  stands : slice_get ds further ≡ Some declaration
  is : v ≡ voice declaration.name (Declared at (place + further))

in-rule : (at place : ℕ) (ds : List Declaration) (v : Voice) → In v (rule_voices at place ds) → RuleSays at place ds v
in-rule at place [] v is = absurd is
in-rule at place (d ∷ ds) v (inl same) =
    let n : place ≡ place + 0 = omega arith in
    record { further = 0; declaration = d; stands = refl; is = same ∙ ap (λ (p : ℕ). voice d.name (Declared at p)) n }
in-rule at place (d ∷ ds) v (inr further) =
    let s = in-rule at (place + 1) ds v further in
    let n : (place + 1) + s.further ≡ place + suc s.further = omega arith in
    record {
      further = suc s.further;
      declaration = s.declaration;
      stands = s.stands;
      is = s.is ∙ ap (λ (p : ℕ). voice s.declaration.name (Declared at p)) n;
    }

rule-in : (at place further : ℕ) (ds : List Declaration) (d : Declaration) → slice_get ds further ≡ Some d
    → In (voice d.name (Declared at (place + further))) (rule_voices at place ds)
rule-in at place further [] d e = absurd (cc)
rule-in at place zero (x ∷ ds) d e =
    let same : d ≡ x = cc in
    let n : place + 0 ≡ place = omega arith in
    inl (ap (λ (y : Declaration). voice y.name (Declared at (place + 0))) same
    ∙ ap (λ (p : ℕ). voice x.name (Declared at p)) n)
rule-in at place (suc further) (x ∷ ds) d e =
    let n : (place + 1) + further ≡ place + suc further = omega arith in
    inr (subst (λ (p : ℕ). In (voice d.name (Declared at p)) (rule_voices at (place + 1) ds)) n
    (rule-in at (place + 1) further ds d e))

record MatchSays (sheets : List SheetAt) (at : ℕ) (cs : List Candidate) (v : Voice) : Type 0 where
  further : ℕ
  candidate : Candidate
  matches : slice_get cs further ≡ Some candidate
  says : RuleSays (at + further) 0 (declarations_of (rule_at sheets candidate)) v

in-declared : (sheets : List SheetAt) (at : ℕ) (cs : List Candidate) (v : Voice) → In v (declared_voices sheets at cs)
    → MatchSays sheets at cs v
unfolding declared_voices
in-declared sheets at [] v is = absurd is
in-declared sheets at (c ∷ cs) v is =
    elim (in-append (rule_voices at 0 (declarations_of (rule_at sheets c))) (declared_voices sheets (at + 1) cs) v is) [
      | inl here ↦
          let n : at ≡ at + 0 = omega arith in
          record {
            further = 0;
            candidate = c;
            matches = refl;
            says = subst (λ (a : ℕ). RuleSays a 0 (declarations_of (rule_at sheets c)) v) n
                (in-rule at 0 (declarations_of (rule_at sheets c)) v here);
          }
      | inr more ↦
          let s = in-declared sheets (at + 1) cs v more in
          let n : (at + 1) + s.further ≡ at + suc s.further = omega arith in
          record {
            further = suc s.further;
            candidate = s.candidate;
            matches = s.matches;
            says = subst (λ (a : ℕ). RuleSays a 0 (declarations_of (rule_at sheets s.candidate)) v) n s.says;
          }
    ]

declared-in : (sheets : List SheetAt) (at further : ℕ) (cs : List Candidate) (c : Candidate) (v : Voice)
    → slice_get cs further ≡ Some c → In v (rule_voices (at + further) 0 (declarations_of (rule_at sheets c)))
    → In v (declared_voices sheets at cs)
unfolding declared_voices
declared-in sheets at further [] c v e is = absurd (cc)
declared-in sheets at zero (x ∷ cs) c v e is =
    let same : c ≡ x = cc in
    let n : at + 0 ≡ at = omega arith in
    in-left (rule_voices at 0 (declarations_of (rule_at sheets x))) (declared_voices sheets (at + 1) cs) v
    (subst (λ (a : ℕ). In v (rule_voices a 0 (declarations_of (rule_at sheets x)))) n
    (subst (λ (y : Candidate). In v (rule_voices (at + 0) 0 (declarations_of (rule_at sheets y)))) same is))
declared-in sheets at (suc further) (x ∷ cs) c v e is =
    let n : at + suc further ≡ (at + 1) + further = omega arith in
    in-right (rule_voices at 0 (declarations_of (rule_at sheets x))) (declared_voices sheets (at + 1) cs) v
    (declared-in sheets (at + 1) further cs c v e
    (subst (λ (a : ℕ). In v (rule_voices a 0 (declarations_of (rule_at sheets c)))) n is))

-- what is listed for a name speaks for it
pub listed_speaks : (sheets : List SheetAt) (matched : List Candidate) (codes : List CodeValue) (name : List ℕ)
    (source : Source) → In source (sources_for name (voices sheets matched codes))
    → Speaks sheets matched codes name source
listed_speaks sheets matched codes name source is =
    let s = in-for name (voices sheets matched codes) source is in
    elim (in-append (map code_voice codes) (declared_voices sheets 0 matched) s.one s.listed) [
      | inl code ↦
          let c = in-codes codes s.one code in
          inl (record {
            at = c.at;
            value = c.value;
            given = c.given;
            named = sym (ap (λ (v : Voice). v.name) c.is) ∙ s.named;
            is = s.is ∙ ap (λ (v : Voice). v.source) c.is;
          })
      | inr declared ↦
          let m = in-declared sheets 0 matched s.one declared in
          let n : 0 + m.further ≡ m.further = omega arith in
          let k : 0 + m.says.further ≡ m.says.further = omega arith in
          inr (record {
            at = m.further;
            candidate = m.candidate;
            matches = m.matches;
            place = m.says.further;
            declaration = m.says.declaration;
            stands = m.says.stands;
            named = sym (ap (λ (v : Voice). v.name) m.says.is) ∙ s.named;
            is = s.is ∙ ap (λ (v : Voice). v.source) m.says.is ∙ ap (λ (a : ℕ). Declared a (0 + m.says.further)) n
                ∙ ap (Declared m.further) k;
          })
    ]

-- what speaks for a name is listed for it
pub speaks_listed : (sheets : List SheetAt) (matched : List Candidate) (codes : List CodeValue) (name : List ℕ)
    (source : Source) → Speaks sheets matched codes name source
    → In source (sources_for name (voices sheets matched codes))
speaks_listed sheets matched codes name source (inl c) =
    subst (λ (s : Source). In s (sources_for name (voices sheets matched codes))) (sym c.is)
    (for-in name (voices sheets matched codes) (code_voice c.value)
    (in-left (map code_voice codes) (declared_voices sheets 0 matched) (code_voice c.value)
    (codes-in codes c.at c.value c.given)) c.named)
speaks_listed sheets matched codes name source (inr d) =
    let n : d.at ≡ 0 + d.at = omega arith in
    let k : 0 + d.place ≡ d.place = omega arith in
    let ds = declarations_of (rule_at sheets d.candidate) in
    let v : Voice = voice d.declaration.name (Declared d.at d.place) in
    let here : In v (rule_voices d.at 0 ds) =
    subst (λ (p : ℕ). In (voice d.declaration.name (Declared d.at p)) (rule_voices d.at 0 ds)) k
    (rule-in d.at 0 d.place ds d.declaration d.stands) in
    subst (λ (s : Source). In s (sources_for name (voices sheets matched codes))) (sym d.is)
    (for-in name (voices sheets matched codes) v
    (in-right (map code_voice codes) (declared_voices sheets 0 matched) v
    (declared-in sheets 0 d.at matched d.candidate v d.matches
    (subst (λ (a : ℕ). In v (rule_voices a 0 ds)) n here))) d.named)
