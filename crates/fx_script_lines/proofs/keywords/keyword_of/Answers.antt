-- the words of other lengths are never found
use Rattle.std.proofs.Common.{◌≡◌, ◌≤◌, ◌∙◌, ◌++◌, ℕ, false, [], ap, eqb, ltb, length, not, arith, refl}
use Rattle.std.proofs.lemmas.Bool.Decides.{nat_tests}
use Rattle.fx_script_lines.specs.Keywords.{keyword_of, keywords, eight_letters, five_letters, four_letters, more_letters, seven_letters, six_letters, three_letters}
use Rattle.fx_script_lines.proofs.KeywordLemmas.{found_within, nothing_found}
use Rattle.fx_script_lines.proofs.keywords.keyword_of.Goals as goal

pub returns-in-3 : goal.returns-in-3
unfolding keyword_of keywords
returns-in-3 c =
    c.keyword_at.ensures
    ∙ found_within (λ k. not (eqb k 3)) c.args.word.now ([]) three_letters (four_letters ++ (five_letters ++ (six_letters ++ (seven_letters ++ (eight_letters ++ (more_letters))))))
    (ap (λ (n : ℕ). not (eqb n 3)) c.in-3.is) refl refl

pub returns-in-4 : goal.returns-in-4
unfolding keyword_of keywords
returns-in-4 c =
    c.keyword_at-in-4.ensures
    ∙ found_within (λ k. not (eqb k 4)) c.args.word.now (three_letters) four_letters (five_letters ++ (six_letters ++ (seven_letters ++ (eight_letters ++ (more_letters)))))
    (ap (λ (n : ℕ). not (eqb n 4)) c.in-4.is) refl refl

pub returns-in-5 : goal.returns-in-5
unfolding keyword_of keywords
returns-in-5 c =
    c.keyword_at-in-5.ensures
    ∙ found_within (λ k. not (eqb k 5)) c.args.word.now (three_letters ++ (four_letters)) five_letters (six_letters ++ (seven_letters ++ (eight_letters ++ (more_letters))))
    (ap (λ (n : ℕ). not (eqb n 5)) c.in-5.is) refl refl

pub returns-in-6 : goal.returns-in-6
unfolding keyword_of keywords
returns-in-6 c =
    c.keyword_at-in-6.ensures
    ∙ found_within (λ k. not (eqb k 6)) c.args.word.now (three_letters ++ (four_letters ++ (five_letters))) six_letters (seven_letters ++ (eight_letters ++ (more_letters)))
    (ap (λ (n : ℕ). not (eqb n 6)) c.in-6.is) refl refl

pub returns-in-7 : goal.returns-in-7
unfolding keyword_of keywords
returns-in-7 c =
    c.keyword_at-in-7.ensures
    ∙ found_within (λ k. not (eqb k 7)) c.args.word.now (three_letters ++ (four_letters ++ (five_letters ++ (six_letters)))) seven_letters (eight_letters ++ (more_letters))
    (ap (λ (n : ℕ). not (eqb n 7)) c.in-7.is) refl refl

pub returns-in-8 : goal.returns-in-8
unfolding keyword_of keywords
returns-in-8 c =
    c.keyword_at-in-8.ensures
    ∙ found_within (λ k. not (eqb k 8)) c.args.word.now (three_letters ++ (four_letters ++ (five_letters ++ (six_letters ++ (seven_letters))))) eight_letters (more_letters)
    (ap (λ (n : ℕ). not (eqb n 8)) c.in-8.is) refl refl

no_less : (n : ℕ) → n ≤ 2 → ltb 2 n ≡ false
no_less n h = grind (arith, nat_tests)

no_more : (n : ℕ) → 9 ≤ n → ltb n 9 ≡ false
no_more n h = grind (arith, nat_tests)

pub returns-in-0-to-2 : goal.returns-in-0-to-2
unfolding keyword_of keywords
returns-in-0-to-2 c =
    nothing_found (λ k. ltb 2 k) c.args.word.now keywords (no_less (length c.args.word.now) (omega arith)) refl

pub returns-in-9-to-max : goal.returns-in-9-to-max
unfolding keyword_of keywords
returns-in-9-to-max c =
    c.keyword_at-in-9-to-max.ensures
    ∙ found_within (λ k. ltb k 9) c.args.word.now (three_letters ++ (four_letters ++ (five_letters ++ (six_letters ++ (seven_letters ++ eight_letters))))) more_letters []
    (no_more (length c.args.word.now) (omega arith)) refl refl
