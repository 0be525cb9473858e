-- A turn reads the front of marks as the relation does, and what is left is shorter: so marks are read in one way, and in some.
-- Below the answers on sheets and the laws.
use Rattle.std.proofs.Common.{◌≡◌, ℕ, ◌+◌, ◌-◌, ◌<◌, ◌≤◌, Bool, true, false, List, [], ◌∷◌, ◌++◌, suc, zero, map, length, drop, refl, sym, ◌∙◌, ap, subst, arith, append_assoc, append-nil, Option, Some, None}
use Rattle.std.proofs.lemmas.List.{length-map, map-append, length-drop}
use Rattle.std.proofs.Math.Nat.{le_refl, le_trans}
use Rattle.std.specs.Bool.{if◌then◌else◌, nat_le}
use Rattle.std.specs.List.{list_any, before_first, after_first, position_or_len}
use Rattle.fx_css_types.specs.declared.sheets.Rule.{Rule}
use Rattle.fx_css_parts.specs.declared.Selectors.{Selectors}
use Rattle.fx_css.specs.declared.parts.Numbered.{Numbered}
use Rattle.fx_css.specs.Numbered.{is_white}
use Rattle.fx_css.specs.declared.errors.Stop.{Stop}
use Rattle.fx_css.specs.Rules.{is_at, is_open, is_close, selected, Reading, past_rules, Reads, Ended, White, At, Leftover, Kept, Dropped}
use Rattle.fx_css.specs.Cutting.{block_length, at_rule_length, Turn, rule_turn, shown_turn, turn_of, turn_at}
use Rattle.fx_css.specs.Sheets.{IsStop}
use Rattle.fx_css.proofs.Blocks.{block_some, block_only, at_some, at_only}
use Rattle.fx_css.proofs.Bodies.{first_more}

-- the turns

white_turn : (m : Numbered) (ms : List Numbered) → is_white m ≡ true → turn_of m ms ≡ record { readings = []; warnings = []; rest = ms }
unfolding turn_of
white_turn m ms e = rw e refl

at_turn : (m : Numbered) (ms : List Numbered) → is_white m ≡ false → is_at m ≡ true → turn_of m ms ≡ record { readings = []; warnings = m.number ∷ []; rest = drop (at_rule_length ms) ms }
unfolding turn_of
at_turn m ms e f = rw (e, f) refl

leftover_turn : (m : Numbered) (ms : List Numbered) → is_white m ≡ false → is_at m ≡ false → list_any is_open (m ∷ ms) ≡ false → turn_of m ms ≡ record { readings = []; warnings = m.number ∷ []; rest = [] }
unfolding turn_of shown_turn
leftover_turn m ms e f g = rw (e, f, g) refl

rule_turn_is : (m : Numbered) (ms : List Numbered) (o : Option Selectors) → is_white m ≡ false → is_at m ≡ false → list_any is_open (m ∷ ms) ≡ true → selected (before_first is_open (m ∷ ms)) ≡ o → turn_of m ms ≡ rule_turn m.number (before_first is_open (m ∷ ms)) (after_first is_open (m ∷ ms)) o
unfolding turn_of shown_turn
rule_turn_is m ms o e f g h = rw (e, f, g, h) refl

-- the rest that a turn leaves, read, completes the turn

pub record Goes (m : Numbered) (ms : List Numbered) (t : Turn) : Type 0 where
  pub reads : (rs : List Reading) (ws : List ℕ) → Reads t.rest rs ws → Reads (m ∷ ms) (t.readings ++ rs) (t.warnings ++ ws)
  pub shorter : length t.rest ≤ length ms

pub dropped_le : {X : Type 0} (n : ℕ) (xs : List X) → length (drop n xs) ≤ length xs
dropped_le n xs = let e : length (drop n xs) ≡ length xs - n = length-drop n xs in omega arith

-- what is behind the first that passes, of some
behind_le : {X : Type 0} (p : X → Bool) (x : X) (xs : List X) → length (after_first p (x ∷ xs)) ≤ length xs
behind_le p x xs =
    let e : length (drop (position_or_len p (x ∷ xs) + 1) (x ∷ xs)) ≡ length (x ∷ xs) - (position_or_len p (x ∷ xs) + 1) = length-drop (position_or_len p (x ∷ xs) + 1) (x ∷ xs) in
    omega arith

no_more : (x : ℕ) (m : Numbered) (ms : List Numbered) (rs : List Reading) (ws : List ℕ) → Reads [] rs ws → Reads (m ∷ ms) [] (x ∷ []) → Reads (m ∷ ms) rs (x ∷ ws)
no_more x m ms rs ws Ended h = h

goes_rule : (m : Numbered) (ms : List Numbered) (o : Option Selectors) → is_white m ≡ false → is_at m ≡ false → list_any is_open (m ∷ ms) ≡ true → selected (before_first is_open (m ∷ ms)) ≡ o → Goes m ms (rule_turn m.number (before_first is_open (m ∷ ms)) (after_first is_open (m ∷ ms)) o)
goes_rule m ms (Some s) e f g h = record {
  reads = λ rs ws r. Kept m s e f g h r;
  shorter = le_trans (dropped_le (position_or_len is_close (after_first is_open (m ∷ ms)) + 1) (after_first is_open (m ∷ ms))) (behind_le is_open m ms);
}
goes_rule m ms None e f g h = record {
  reads = λ rs ws r. Dropped m (drop (block_length 0 (after_first is_open (m ∷ ms))) (after_first is_open (m ∷ ms))) e f g h (block_some (after_first is_open (m ∷ ms))) r;
  shorter = le_trans (dropped_le (block_length 0 (after_first is_open (m ∷ ms))) (after_first is_open (m ∷ ms))) (behind_le is_open m ms);
}

le_none : {X : Type 0} (xs : List X) → length {A = X} [] ≤ length xs
le_none xs = omega arith

goes_by : (m : Numbered) (ms : List Numbered) (a b c : Bool) → is_white m ≡ a → is_at m ≡ b → list_any is_open (m ∷ ms) ≡ c → Goes m ms (turn_of m ms)
goes_by m ms true b c e f g = subst (λ y. Goes m ms y) (sym (white_turn m ms e)) (record { reads = λ rs ws r. White m e r; shorter = le_refl (length ms) })
goes_by m ms false true c e f g = subst (λ y. Goes m ms y) (sym (at_turn m ms e f)) (record {
  reads = λ rs ws r. At m (drop (at_rule_length ms) ms) e f (at_some ms) r;
  shorter = dropped_le (at_rule_length ms) ms;
})
goes_by m ms false false true e f g = subst (λ y. Goes m ms y) (sym (rule_turn_is m ms (selected (before_first is_open (m ∷ ms))) e f g refl)) (goes_rule m ms (selected (before_first is_open (m ∷ ms))) e f g refl)
goes_by m ms false false false e f g = subst (λ y. Goes m ms y) (sym (leftover_turn m ms e f g)) (record { reads = λ rs ws r. no_more m.number m ms rs ws r (Leftover m e f g); shorter = le_none ms })

pub goes : (m : Numbered) (ms : List Numbered) → Goes m ms (turn_of m ms)
goes m ms = goes_by m ms (is_white m) (is_at m) (list_any is_open (m ∷ ms)) refl refl refl

pub turn_reads : (ms : List Numbered) (rs : List Reading) (ws : List ℕ) → Reads (turn_at ms).rest rs ws → Reads ms ((turn_at ms).readings ++ rs) ((turn_at ms).warnings ++ ws)
turn_reads [] rs ws r = r
turn_reads (m ∷ ms) rs ws r = (goes m ms).reads rs ws r

pub turn_shorter : (ms : List Numbered) → 0 < length ms → length (turn_at ms).rest < length ms
turn_shorter [] h = absurd (omega arith)
turn_shorter (m ∷ ms) h = let g : length (turn_of m ms).rest ≤ length ms = (goes m ms).shorter in omega arith

-- some reading

pub record Some_reading (ms : List Numbered) : Type 0 where
  pub readings : List Reading
  pub warnings : List ℕ
  pub reads : Reads ms readings warnings

some_within : (n : ℕ) (ms : List Numbered) → length ms ≤ n → Some_reading ms
some_within n [] h = record { readings = []; warnings = []; reads = Ended }
some_within zero (m ∷ ms) h = absurd (omega arith)
some_within (suc n) (m ∷ ms) h =
    let g : length (turn_of m ms).rest ≤ length ms = (goes m ms).shorter in
    let s : Some_reading (turn_of m ms).rest = some_within n (turn_of m ms).rest (omega arith) in
    record { readings = (turn_of m ms).readings ++ s.readings; warnings = (turn_of m ms).warnings ++ s.warnings; reads = (goes m ms).reads s.readings s.warnings s.reads }

pub some_reading : (ms : List Numbered) → Some_reading ms
some_reading ms = some_within (length ms) ms (le_refl (length ms))

-- no other

pub record Left (m : Numbered) (ms : List Numbered) (t : Turn) (rs : List Reading) (ws : List ℕ) : Type 0 where
  pub readings : List Reading
  pub warnings : List ℕ
  pub reads : Reads t.rest readings warnings
  pub are_readings : rs ≡ t.readings ++ readings
  pub are_warnings : ws ≡ t.warnings ++ warnings

re_left : (m : Numbered) (ms : List Numbered) (t u : Turn) (rs : List Reading) (ws : List ℕ) → t ≡ u → Left m ms u rs ws → Left m ms t rs ws
re_left m ms t u rs ws e h = subst (λ y. Left m ms y rs ws) (sym e) h

reads_at : {a b : List Numbered} {rs : List Reading} {ws : List ℕ} → a ≡ b → Reads a rs ws → Reads b rs ws
reads_at {a} {b} {rs} {ws} e h = subst (λ y. Reads y rs ws) e h

abbrev LeftOf : List Numbered → List Reading → List ℕ → Type 0
LeftOf [] rs ws = (rs ≡ []) × (ws ≡ [])
LeftOf (m ∷ ms) rs ws = Left m ms (turn_of m ms) rs ws

left : {ms : List Numbered} {rs : List Reading} {ws : List ℕ} → Reads ms rs ws → LeftOf ms rs ws
left Ended = (refl, refl)
left (White {ms = ms} {rs = rs} {ws = ws} m e r) = re_left m ms (turn_of m ms) (record { readings = []; warnings = []; rest = ms }) rs ws (white_turn m ms e) (record { readings = rs; warnings = ws; reads = r; are_readings = refl; are_warnings = refl })
left (At {ms = ms} {rs = rs} {ws = ws} m rest e f a r) = re_left m ms (turn_of m ms) (record { readings = []; warnings = m.number ∷ []; rest = drop (at_rule_length ms) ms }) rs (m.number ∷ ws) (at_turn m ms e f) (record { readings = rs; warnings = ws; reads = reads_at (at_only a) r; are_readings = refl; are_warnings = refl })
left (Leftover {ms = ms} m e f g) = re_left m ms (turn_of m ms) (record { readings = []; warnings = m.number ∷ []; rest = [] }) [] (m.number ∷ []) (leftover_turn m ms e f g) (record { readings = []; warnings = []; reads = Ended; are_readings = refl; are_warnings = refl })
left (Kept {ms = ms} {rs = rs} {ws = ws} m s e f g h r) =
    let t : Turn = rule_turn m.number (before_first is_open (m ∷ ms)) (after_first is_open (m ∷ ms)) (Some s) in
    re_left m ms (turn_of m ms) t (t.readings ++ rs) (t.warnings ++ ws) (rule_turn_is m ms (Some s) e f g h) (record { readings = rs; warnings = ws; reads = r; are_readings = refl; are_warnings = refl })
left (Dropped {ms = ms} {rs = rs} {ws = ws} m rest e f g h b r) =
    let t : Turn = rule_turn m.number (before_first is_open (m ∷ ms)) (after_first is_open (m ∷ ms)) None in
    re_left m ms (turn_of m ms) t rs (m.number ∷ ws) (rule_turn_is m ms None e f g h) (record { readings = rs; warnings = ws; reads = reads_at (block_only b) r; are_readings = refl; are_warnings = refl })

one_within : (n : ℕ) (ms : List Numbered) (rs qs : List Reading) (ws vs : List ℕ) → length ms ≤ n → LeftOf ms rs ws → LeftOf ms qs vs → (rs ≡ qs) × (ws ≡ vs)
one_within n [] rs qs ws vs h a b = (a.0 ∙ sym b.0, a.1 ∙ sym b.1)
one_within zero (m ∷ ms) rs qs ws vs h a b = absurd (omega arith)
one_within (suc n) (m ∷ ms) rs qs ws vs h a b =
    let g : length (turn_of m ms).rest ≤ length ms = (goes m ms).shorter in
    let k : length (turn_of m ms).rest ≤ n = omega arith in
    let both = one_within n (turn_of m ms).rest a.readings b.readings a.warnings b.warnings k (left a.reads) (left b.reads) in (
      a.are_readings ∙ (ap (λ y. (turn_of m ms).readings ++ y) both.0 ∙ sym b.are_readings),
      a.are_warnings ∙ (ap (λ y. (turn_of m ms).warnings ++ y) both.1 ∙ sym b.are_warnings),
    )

pub one_reading : (ms : List Numbered) (rs qs : List Reading) (ws vs : List ℕ) → Reads ms rs ws → Reads ms qs vs → (rs ≡ qs) × (ws ≡ vs)
one_reading ms rs qs ws vs a b = one_within (length ms) ms rs qs ws vs (le_refl (length ms)) (left a) (left b)

-- limits

suc_plus : (n k : ℕ) → suc n + k ≡ n + suc k
suc_plus n k = omega arith

pub past_append : (n : ℕ) (xs ys : List Reading) → past_rules n (xs ++ ys) ≡ past_rules n xs ++ past_rules (n + length xs) ys
past_append n [] ys = ap (λ y. past_rules y ys) (let z : n ≡ n + 0 = omega arith in z)
past_append n (r ∷ xs) ys =
    let here : List ℕ = if nat_le 4096 n then r.start ∷ [] else [] in
    ap (λ y. here ++ (r.past ++ y)) (past_append (suc n) xs ys ∙ ap (λ y. past_rules (suc n) xs ++ past_rules y ys) (suc_plus n (length xs)))
    ∙ sym (append_assoc here (r.past ++ past_rules (suc n) xs) (past_rules (n + length (r ∷ xs)) ys)
    ∙ ap (λ y. here ++ y) (append_assoc r.past (past_rules (suc n) xs) (past_rules (n + length (r ∷ xs)) ys)))

-- so far: whatever the rest is read as completes what is read

pub record IsReadSoFar (rules : List Rule) (warnings : List ℕ) (rest ms : List Numbered) : Type 0 where
  pub done : List Reading
  pub are_rules : rules ≡ map (λ r. r.rule) done
  pub within : past_rules 0 done ≡ []
  pub completes : (rs : List Reading) (ws : List ℕ) → Reads rest rs ws → Reads ms (done ++ rs) (warnings ++ ws)

past_in_all : (rules : List Rule) (done more : List Reading) → rules ≡ map (λ r. r.rule) done → past_rules 0 done ≡ [] → past_rules 0 (done ++ more) ≡ past_rules (length rules) more
past_in_all rules done more e w =
    let k : length rules ≡ length done = ap length e ∙ length-map done (λ r. r.rule) in
    let n : 0 + length done ≡ length rules = omega arith in
    past_append 0 done more ∙ (ap (λ y. y ++ past_rules (0 + length done) more) w ∙ ap (λ y. past_rules y more) n)

re_read : {ms : List Numbered} {rs qs : List Reading} {ws vs : List ℕ} → rs ≡ qs → ws ≡ vs → Reads ms rs ws → Reads ms qs vs
re_read {ms} {rs} {qs} {ws} {vs} e f h = subst (λ y. Reads ms qs y) f (subst (λ y. Reads ms y ws) e h)

pub read_more : (rules rules' : List Rule) (warnings warnings' : List ℕ) (rest rest' ms : List Numbered) → IsReadSoFar rules warnings rest ms → rest' ≡ (turn_at rest).rest → rules' ≡ rules ++ map (λ r. r.rule) (turn_at rest).readings → warnings' ≡ warnings ++ (turn_at rest).warnings → past_rules (length rules) (turn_at rest).readings ≡ [] → IsReadSoFar rules' warnings' rest' ms
read_more rules rules' warnings warnings' rest rest' ms s r e f w =
    let t : Turn = turn_at rest in
    record {
      done = s.done ++ t.readings;
      are_rules = e ∙ (ap (λ y. y ++ map (λ r. r.rule) t.readings) s.are_rules ∙ sym (map-append (λ r. r.rule) s.done t.readings));
      within = past_in_all rules s.done t.readings s.are_rules s.within ∙ w;
      completes = λ rs ws h. re_read (sym (append_assoc s.done t.readings rs)) (sym (ap (λ y. y ++ ws) f ∙ append_assoc warnings t.warnings ws))
          (s.completes (t.readings ++ rs) (t.warnings ++ ws) (turn_reads rest rs ws (subst (λ y. Reads y rs ws) r h)));
    }

-- the sheet that stops in a turn
pub record Stops (ms : List Numbered) (e : Stop) : Type 0 where
  pub readings : List Reading
  pub warnings : List ℕ
  pub reads : Reads ms readings warnings
  pub past : IsStop (past_rules 0 readings) e

pub read_stops : (rules : List Rule) (warnings : List ℕ) (rest ms : List Numbered) (e : Stop) → IsReadSoFar rules warnings rest ms → IsStop (past_rules (length rules) (turn_at rest).readings) e → Stops ms e
read_stops rules warnings rest ms e s h =
    let t : Turn = turn_at rest in
    let more : Some_reading t.rest = some_reading t.rest in
    record {
      readings = s.done ++ (t.readings ++ more.readings);
      warnings = warnings ++ (t.warnings ++ more.warnings);
      reads = s.completes (t.readings ++ more.readings) (t.warnings ++ more.warnings) (turn_reads rest more.readings more.warnings more.reads);
      past = subst (λ y. IsStop y e)
          (sym (past_in_all rules s.done (t.readings ++ more.readings) s.are_rules s.within ∙ past_append (length rules) t.readings more.readings))
          (first_more (past_rules (length rules) t.readings) (past_rules (length rules + length t.readings) more.readings) e h);
    }

pub read_all : (rules : List Rule) (warnings : List ℕ) (rest ms : List Numbered) → IsReadSoFar rules warnings rest ms → length rest ≡ 0 → (readings : List Reading) × Reads ms readings warnings × (rules ≡ map (λ r. r.rule) readings) × ([] ≡ past_rules 0 readings)
read_all rules warnings [] ms s e = (s.done, re_read (append-nil s.done) (append-nil warnings) (s.completes [] [] Ended), s.are_rules, sym s.within)
read_all rules warnings (m ∷ rest) ms s e = absurd (omega arith)
