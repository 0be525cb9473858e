-- What each sort of word looks like, and that each part of a command line is read as what it says.
use Rattle.std.proofs.Common.{◌≡◌, inl, inr, ℕ, Bool, true, false, if◌then◌else◌, List, ◌++◌, codes, drop, length, nat_eq, refl}
use Rattle.std.specs.List.{starts_with, fold}
use Rattle.std.specs.Str.{bytes_eq}
use Rattle.std.proofs.lemmas.Bool.Decides.{Decides-eqb}
use Rattle.std.proofs.lemmas.Slice.Eq.{starts_is}
use Rattle.fx_text.proofs.FrontLemmas.{bytes_tell}
use Rattle.fx_words.specs.Asking.{Arguments, Word, Part, Positional, Summary, Apart, Joined, IsPart, is_plain, name_of, words_of, with_part}
use Rattle.fx_words.specs.Reading.{next, sort_of, stepped, value_behind}
use Rattle.fx_words.specs.declared.sorts.Awaits.TheVariants as awaits
use Rattle.fx_words.specs.declared.sorts.Setting.TheVariants as setting
use Rattle.fx_words.specs.declared.sorts.Sort.{Sort}
use Rattle.fx_words.specs.declared.sorts.Sort.TheVariants as sort

-- a word of this sort
abbrev pub Fits : Sort → Word → Type 0
Fits sort.Plain word = is_plain word ≡ true
Fits sort.End word = word ≡ codes "--"
Fits sort.Summary word = word ≡ codes "--summary"
Fits (sort.Apart option) word = word ≡ name_of option
Fits (sort.Joined option) word = word ≡ name_of option ++ (codes "=" ++ value_behind option word)
Fits sort.Unknown word = Unit {0}

same_bytes : (xs ys : List ℕ) → bytes_eq xs ys ≡ true → xs ≡ ys
same_bytes xs ys e = elim (bytes_tell xs ys) [ inl h ↦ h.1 | inr h ↦ cc ]

by_step : (P : Sort → Type 0) (test : Bool) (x y : Sort) → (test ≡ true → P x) → P y → P (if test then x else y)
by_step P true x y h k = h refl
by_step P false x y h k = k

begins : (word front : List ℕ) → starts_with nat_eq word front ≡ true → word ≡ front ++ drop (length front) word
begins word front e = (starts_is Decides-eqb word front (starts_with nat_eq word front) refl).0 e

pub fits : (word : Word) → Fits (sort_of word) word
unfolding sort_of
fits word =
    let P : Sort → Type 0 = λ s. Fits s word in
    by_step P (is_plain word) _ _ (λ e. e)
    (by_step P (bytes_eq word (codes "--")) _ _ (λ e. same_bytes word _ e)
    (by_step P (bytes_eq word (codes "--summary")) _ _ (λ e. same_bytes word _ e)
    (by_step P (bytes_eq word (codes "--size")) _ _ (λ e. same_bytes word _ e)
    (by_step P (bytes_eq word (codes "--frames")) _ _ (λ e. same_bytes word _ e)
    (by_step P (starts_with nat_eq word (codes "--size=")) _ _ (λ e. begins word (codes "--size=") e)
    (by_step P (starts_with nat_eq word (codes "--frames=")) _ _ (λ e. begins word (codes "--frames=") e) tt))))))

plain_sort : (word : Word) → is_plain word ≡ true → sort_of word ≡ sort.Plain
unfolding sort_of
plain_sort word e = rw e refl

pub part_read : (part : Part) (a : Arguments) → IsPart part
    → fold next (stepped a awaits.Any) (words_of part) ≡ stepped (with_part a part) awaits.Any
unfolding sort_of
part_read (Positional word) a e = rw (plain_sort word e) refl
part_read Summary a e = refl
part_read (Apart setting.Size value) a e = refl
part_read (Apart setting.Frames value) a e = refl
part_read (Joined setting.Size value) a e = refl
part_read (Joined setting.Frames value) a e = refl
