-- Pieces that are read into lanes, and the rows of the lanes one behind the other.
use Rattle.std.proofs.Common.{◌≡◌, ℕ, zero, suc, ◌+◌, ◌<◌, ◌≤◌, Bool, true, false, not, cond, nat_lt, List, [], ◌∷◌, ◌++◌, Option, None, Some, Result, Ok, Err, length, take, drop, get_or, refl, sym, ap, ◌∙◌, arith, subst, append_assoc}
use Rattle.std.specs.Prelude.{is_err}
use Rattle.std.specs.List.{AllZip, HoldsAt, position, position_or_len}
use denote.Ref.{Bor}
use Rattle.std.proofs.lemmas.Bool.{ltb-false, ltb-true}
use Rattle.std.proofs.lemmas.List.{append-nil, take_all}
use Rattle.std.proofs.lemmas.List.Concat.{flat_map-append}
use Rattle.std.proofs.lemmas.List.Elements.{All-cons, All-nil}
use Rattle.std.proofs.lemmas.List.Sums.{passes_at_first}
use Rattle.std.proofs.lemmas.Option.{cond_some}
use Rattle.value_types.specs.declared.ty.Ty.{Ty}
use Rattle.value_types.specs.declared.value.Value.{Value}
use Rattle.tsv_text.specs.Lines.{lines_of}
use Rattle.columns.specs.Rows.{Rows, no_rows, with_rows}
use Rattle.scalar_texts.specs.States.{ReadsStates}
use Rattle.row_texts.specs.Rows.{AreRows}
use Rattle.row_texts.specs.declared.refusal.LineRefusal.{LineRefusal}
use Rattle.row_texts.specs.declared.refusal.LineRefusal.TheVariants as line
use Rattle.batch_reader.specs.proving.Pieces.{AreOf, HasLines, HasPiece, is_refused, lines_in, rows_in}
use Rattle.batch_reader.specs.proving.Pushing.{PushesLines, PushesText, StopsBefore}
use Rattle.batch_reader.specs.declared.lane.Lane.{Lane}
use Rattle.batch_reader.proofs.Pushed.{rows-append}

pub lines_in-append : (xs ys : List (Bor (List ℕ))) → lines_in (xs ++ ys) ≡ lines_in xs ++ lines_in ys
lines_in-append [] ys = refl
lines_in-append (x ∷ xs) ys = ap (λ (l : List (List ℕ)). lines_of x.now ++ l) (lines_in-append xs ys) ∙ sym (append_assoc (lines_of x.now) (lines_in xs) (lines_in ys))

zip-length : {X Y : Type 0} (R : X → Y → Type 0) (xs : List X) (ys : List Y) → AllZip R xs ys → length xs ≡ length ys
zip-length R [] [] h = refl
zip-length R [] (y ∷ ys) h = absurd h
zip-length R (x ∷ xs) [] h = absurd h
zip-length R (x ∷ xs) (y ∷ ys) h = ap suc (zip-length R xs ys h.1)

-- each lane with the piece at its place
pub zip-each : {X Y : Type 0} (R : X → Y → Type 0) (xs : List X) (ys : List Y) → length ys ≡ length xs → ((i : ℕ) (d : Y) → i < length ys → HoldsAt (λ x. R x (get_or ys i d)) xs i) → AllZip R xs ys
zip-each R [] [] long each = tt
zip-each R [] (y ∷ ys) long each = absurd (omega (arith, long))
zip-each R (x ∷ xs) [] long each = absurd (omega (arith, long))
zip-each R (x ∷ xs) (y ∷ ys) long each = (each 0 y (omega arith) x, zip-each R xs ys (omega (arith, long)) (λ i d within e. each (suc i) d (omega (arith, within)) e))

-- the lane at a place, and the piece at that place
record At (reads : ReadsStates) (types : List Ty) (texts : List (Bor (List ℕ))) (lanes : List Lane) (place : ℕ) (lane : Lane) : Type 0 where
  text : Bor (List ℕ)
  texts_are : texts ≡ take place texts ++ text ∷ drop (suc place) texts
  lanes_are : take (suc place) lanes ≡ take place lanes ++ lane ∷ []
  has : HasPiece reads types text.now lane

pick : (reads : ReadsStates) (types : List Ty) (texts : List (Bor (List ℕ))) (lanes : List Lane) (place : ℕ) (lane : Lane)
    → AllZip (λ (text : Bor (List ℕ)) (it : Lane). HasPiece reads types text.now it) texts lanes → place < length lanes → lane ≡ get_or lanes place lane → At reads types texts lanes place lane
pick reads types [] [] place lane all within is = absurd (omega (arith, within))
pick reads types [] (l ∷ lanes) place lane all within is = absurd all
pick reads types (t ∷ texts) [] place lane all within is = absurd all
pick reads types (t ∷ texts) (l ∷ lanes) zero lane all within is = record { text = t; texts_are = refl; lanes_are = ap (λ (x : Lane). x ∷ []) (sym is); has = subst (HasPiece reads types t.now) (sym is) all.0 }
pick reads types (t ∷ texts) (l ∷ lanes) (suc place) lane all within is =
    let at = pick reads types texts lanes place lane all.1 (omega (arith, within)) is in
    record { text = at.text; texts_are = ap (λ (ts : List (Bor (List ℕ))). t ∷ ts) at.texts_are; lanes_are = ap (λ (ls : List Lane). l ∷ ls) at.lanes_are; has = at.has }

-- a lane without a refused line has the rows of all lines
rows-whole : (reads : ReadsStates) (types : List Ty) (lines : List (List ℕ)) (rows : Rows) (pushed : Result (Unit {0}) LineRefusal)
    → PushesLines reads (no_rows types) lines rows pushed → is_err pushed ≡ false → AreRows reads types lines rows.rows
rows-whole reads types lines rows (Ok done) said whole = subst (AreRows reads types lines) (sym (ap (λ (b : Rows). b.rows) said.2)) said.1
rows-whole reads types lines rows (Err refusal) said whole = absurd cc

-- the lanes before the first with a refused line have the rows of all lines before its piece
front-step : (reads : ReadsStates) (types : List Ty) (text : Bor (List ℕ)) (texts : List (Bor (List ℕ))) (lane : Lane) (lanes : List Lane) (k : ℕ) (refused : Bool)
    → HasPiece reads types text.now lane → (k ≤ position_or_len is_refused lanes → AreRows reads types (lines_in (take k texts)) (rows_in (take k lanes)))
    → is_refused lane ≡ refused → suc k ≤ cond (not refused) (1 + position_or_len is_refused lanes) 0
    → AreRows reads types (lines_of text.now ++ lines_in (take k texts)) (lane.rows.rows ++ rows_in (take k lanes))
front-step reads types text texts lane lanes k true has rest is within = absurd (omega (arith, within))
front-step reads types text texts lane lanes k false has rest is within =
    rows-append reads types (lines_of text.now) (lines_in (take k texts)) lane.rows.rows (rows_in (take k lanes))
    (rows-whole reads types (lines_of text.now) lane.rows lane.pushed has is) (rest (omega (arith, within)))

front-rows : (reads : ReadsStates) (types : List Ty) (texts : List (Bor (List ℕ))) (lanes : List Lane) (k : ℕ)
    → AllZip (λ (text : Bor (List ℕ)) (it : Lane). HasPiece reads types text.now it) texts lanes → k ≤ position_or_len is_refused lanes
    → AreRows reads types (lines_in (take k texts)) (rows_in (take k lanes))
front-rows reads types texts lanes zero all within = tt
front-rows reads types [] [] (suc k) all within = absurd (omega (arith, within))
front-rows reads types [] (l ∷ lanes) (suc k) all within = absurd all
front-rows reads types (t ∷ texts) [] (suc k) all within = absurd all
front-rows reads types (t ∷ texts) (l ∷ lanes) (suc k) all within = front-step reads types t texts l lanes k (is_refused l) all.0 (front-rows reads types texts lanes k all.1) refl within

no-place : (b : Bool) (x : ℕ) → cond b (Some x) None ≡ None → b ≡ false
no-place true x e = absurd cc
no-place false x e = refl

-- no piece has a refused line
pub all-pushed : (reads : ReadsStates) (batch after : Rows) (lines : List (List ℕ)) (lanes : List Lane) (found : Option ℕ)
    → HasLines reads batch.types lines lanes → found ≡ position is_refused lanes → found ≡ None → after ≡ with_rows batch (rows_in lanes) → PushesText reads batch lines after (Ok tt)
all-pushed reads batch after lines lanes found has found_is none after_is =
    let count = position_or_len is_refused lanes in
    let past = ltb-false count (length lanes) (no-place (nat_lt count (length lanes)) count (sym found_is ∙ none)) in
    let long = zip-length (λ (text : Bor (List ℕ)) (it : Lane). HasPiece reads batch.types text.now it) has.pieces lanes has.each in
    let front = front-rows reads batch.types has.pieces lanes (length lanes) has.each past in
    let whole = subst (λ (ts : List (Bor (List ℕ))). AreRows reads batch.types (lines_in ts) (rows_in (take (length lanes) lanes))) (take_all (length lanes) has.pieces (omega (arith, long))) front in
    let rows = subst (λ (ls : List Lane). AreRows reads batch.types (lines_in has.pieces) (rows_in ls)) (take_all (length lanes) lanes (omega arith)) whole in
    (rows_in lanes, subst (λ (ls : List (List ℕ)). AreRows reads batch.types ls (rows_in lanes)) has.split rows, after_is)

-- the piece at a place has the first refused line
stops-at : (reads : ReadsStates) (batch after : Rows) (texts : List (Bor (List ℕ))) (lanes : List Lane) (place : ℕ) (lane : Lane) (refusal : LineRefusal)
    → (at : At reads batch.types texts lanes place lane) → AreRows reads batch.types (lines_in (take place texts)) (rows_in (take place lanes)) → lane.pushed ≡ Err refusal
    → after ≡ with_rows batch (rows_in (take (suc place) lanes)) → StopsBefore reads batch after (lines_in texts) refusal
stops-at reads batch after texts lanes place lane refusal at front refused after_is =
    let stops : StopsBefore reads (no_rows batch.types) lane.rows (lines_of at.text.now) refusal = subst (PushesLines reads (no_rows batch.types) (lines_of at.text.now) lane.rows) refused at.has in
    let before = lines_in (take place texts) in
    let behind = lines_in (drop (suc place) texts) in
    let so_far = rows_in (take place lanes) in
    let rows : rows_in (take (suc place) lanes) ≡ so_far ++ stops.rows =
    ap rows_in at.lanes_are ∙ flat_map-append (λ (it : Lane). it.rows.rows) (take place lanes) (lane ∷ [])
    ∙ ap (λ (l : List (List Value)). so_far ++ l) (append-nil lane.rows.rows ∙ ap (λ (b : Rows). b.rows) stops.pushed) in
    record {
      before = before ++ stops.before;
      line = stops.line;
      behind = stops.behind ++ behind;
      split = ap lines_in at.texts_are ∙ lines_in-append (take place texts) (at.text ∷ drop (suc place) texts)
          ∙ ap (λ (l : List (List ℕ)). before ++ (l ++ behind)) stops.split
          ∙ ap (λ (l : List (List ℕ)). before ++ l) (append_assoc stops.before (stops.line ∷ stops.behind) behind)
          ∙ sym (append_assoc before stops.before (stops.line ∷ (stops.behind ++ behind)));
      rows = so_far ++ stops.rows;
      read = rows-append reads batch.types before stops.before so_far stops.rows front stops.read;
      pushed = after_is ∙ ap (with_rows batch) rows;
      refused = stops.refused;
    }

text-stops : (reads : ReadsStates) (batch after : Rows) (lines : List (List ℕ)) (refusal : LineRefusal) → StopsBefore reads batch after lines refusal → PushesText reads batch lines after (Err refusal)
text-stops reads batch after lines (line.FieldCount want have) stops = stops
text-stops reads batch after lines (line.Field column fault) stops = stops
text-stops reads batch after lines line.OutOfMemory stops = tt

pub first-refused : (reads : ReadsStates) (batch after : Rows) (lines : List (List ℕ)) (lanes : List Lane) (found : Option ℕ) (place : ℕ) (lane : Lane) (refusal : LineRefusal)
    → HasLines reads batch.types lines lanes → found ≡ position is_refused lanes → found ≡ Some place → lane ≡ get_or lanes place lane → lane.pushed ≡ Err refusal
    → after ≡ with_rows batch (rows_in (take (place + 1) lanes)) → PushesText reads batch lines after (Err refusal)
first-refused reads batch after lines lanes found place lane refusal has found_is at_place lane_is refused after_is =
    let count = position_or_len is_refused lanes in
    let some = cond_some (nat_lt count (length lanes)) count place (sym found_is ∙ at_place) in
    let within = ltb-true count (length lanes) some.0 in
    let at = pick reads batch.types has.pieces lanes place lane has.each (omega (arith, within, some.1)) lane_is in
    let front = front-rows reads batch.types has.pieces lanes place has.each (omega (arith, some.1)) in
    let next : place + 1 ≡ suc place = omega arith in
    let joined = after_is ∙ ap (λ (n : ℕ). with_rows batch (rows_in (take n lanes))) next in
    subst (λ (ls : List (List ℕ)). PushesText reads batch ls after (Err refusal)) has.split
    (text-stops reads batch after (lines_in has.pieces) refusal (stops-at reads batch after has.pieces lanes place lane refusal at front refused joined))

pub found-refused : (lanes : List Lane) (found : Option ℕ) (place : ℕ) (lane : Lane) (pushed : Result (Unit {0}) LineRefusal)
    → found ≡ position is_refused lanes → found ≡ Some place → pushed ≡ (get_or lanes place lane).pushed → pushed ≡ Ok tt → ⊥
found-refused lanes found place lane pushed found_is at_place pushed_is done =
    let count = position_or_len is_refused lanes in
    let some = cond_some (nat_lt count (length lanes)) count place (sym found_is ∙ at_place) in
    let within = ltb-true count (length lanes) some.0 in
    let refused : is_err pushed ≡ true = ap is_err pushed_is ∙ ap (λ (k : ℕ). is_refused (get_or lanes k lane)) (sym some.1) ∙ passes_at_first is_refused lanes lane within in
    let whole : is_err pushed ≡ false = ap is_err done in
    absurd cc

-- a lane is of the types that its piece was read as
types-pushed : (reads : ReadsStates) (types : List Ty) (lines : List (List ℕ)) (after : Rows) (pushed : Result (Unit {0}) LineRefusal) → PushesLines reads (no_rows types) lines after pushed → after.types ≡ types
types-pushed reads types lines after (Ok done) h = ap (λ (b : Rows). b.types) h.2
types-pushed reads types lines after (Err refusal) h = ap (λ (b : Rows). b.types) h.pushed

pub zip-types : (reads : ReadsStates) (types : List Ty) (texts : List (Bor (List ℕ))) (lanes : List Lane)
    → AllZip (λ (text : Bor (List ℕ)) (it : Lane). HasPiece reads types text.now it) texts lanes → AreOf types lanes
zip-types reads types [] [] all = All-nil (λ (it : Lane). it.rows.types ≡ types)
zip-types reads types [] (l ∷ lanes) all = absurd all
zip-types reads types (t ∷ texts) [] all = absurd all
zip-types reads types (t ∷ texts) (l ∷ lanes) all =
    All-cons (λ (it : Lane). it.rows.types ≡ types) l lanes (types-pushed reads types (lines_of t.now) l.rows l.pushed all.0) (zip-types reads types texts lanes all.1)
