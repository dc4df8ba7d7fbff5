-- A block that was filled is read.
use Rattle.std.proofs.Common.{◌≡◌, ℕ, ◌+◌, ◌-◌, ◌≤◌, List, [], ◌++◌, Option, None, Some, length, take, drop, refl, sym, ap, ◌∙◌, arith, subst, append_assoc, length-drop, take-append-drop}
use Rattle.std.proofs.lemmas.List.{take_all, drop_all, length-take-le}
use Rattle.std.specs.Option.{IfSome}
use Rattle.std.specs.Io.KnownBytes.{Consumes, IsAtEnd}
use Rattle.tsv_text.specs.Lines.{lines_of}
use Rattle.line_reader.specs.declared.stop.Stop.{Stop}
use Rattle.line_reader.specs.declared.stop.Stop.TheVariants as stop
use Rattle.line_reader.specs.Ahead.{Ahead, IsInput}
use Rattle.line_reader.specs.Answers.{ReadsBlock, StopsAt, IsWhole}
use Rattle.line_reader.specs.Filling.{FillsBlock, HasCut, block_end}
use Rattle.line_reader.specs.Limits.{AreShort}
use Rattle.line_reader.proofs.Lines.{lines_of-append, short-append, short-few}
use Rattle.line_reader.proofs.Grown.{long-grows, large-grows}

-- what a source has left, where it tells it
abbrev pub told_of : Option (List ℕ) → List ℕ
told_of None = []
told_of (Some bytes) = bytes

pub told-is : (left : Option (List ℕ)) → IfSome left (λ told. told_of left ≡ told)
told-is None = tt
told-is (Some bytes) = refl

pub told-consumed : (left now : Option (List ℕ)) (taken : List ℕ) → Consumes left now taken → IfSome left (λ told. taken ++ told_of now ≡ told)
told-consumed None now taken h = tt
told-consumed (Some bytes) None taken h = absurd h
told-consumed (Some bytes) (Some rest) taken h = sym h

pub told-end : (now : Option (List ℕ)) → IsAtEnd now → told_of now ≡ []
told-end None h = refl
told-end (Some bytes) h = h

-- all that is whole, and the rest
pub short-whole : (m r : ℕ) (bytes : List ℕ) (cut : ℕ) → HasCut m r bytes cut → length bytes ≤ cut + m → AreShort m (lines_of bytes)
short-whole m r bytes cut known few =
    subst (λ (text : List ℕ). AreShort m (lines_of text)) (take-append-drop cut bytes)
    (subst (AreShort m) (sym (lines_of-append (take cut bytes) (drop cut bytes) known.whole))
    (short-append m (lines_of (take cut bytes)) (lines_of (drop cut bytes)) known.short (short-few m (drop cut bytes) (omega (arith, length-drop cut bytes)))))

-- the reader behind a block
abbrev pub ahead_of : ℕ → ℕ → List ℕ → Ahead
ahead_of m r held = record { held = held; most_line = m; room = r }

-- what holds of each block, by where it is cut
record IsCutOff (left now : Option (List ℕ)) (m r : ℕ) (held after : List ℕ) (at : ℕ) (stops : Stop) : Type 0 where
  pub within : at ≤ length after
  pub below : at ≤ r
  pub short : AreShort m (lines_of (take at after))
  pub whole : IsWhole (take at after) stops
  pub stop : StopsAt (ahead_of m (r - at) (drop at after)) (take at after) (drop at after ++ told_of now) stops

cut-off : (left now : Option (List ℕ)) (m r : ℕ) (held after : List ℕ) (at : ℕ) (stops : Stop) → FillsBlock left now m r held after at stops
    → IsWhole (take at after) stops → StopsAt (ahead_of m (r - at) (drop at after)) (take at after) (drop at after ++ told_of now) stops → IsCutOff left now m r held after at stops
cut-off left now m r held after at stops filled whole stop = record {
  within = filled.has_cut.within;
  below = filled.has_cut.below;
  short = filled.has_cut.short;
  whole = whole;
  stop = stop;
}

cut-at : (left now : Option (List ℕ)) (m r : ℕ) (held after : List ℕ) (cut : ℕ) (stops : Stop) → FillsBlock left now m r held after cut stops
    → IsCutOff left now m r held after (block_end stops cut (length after)) stops
cut-at left now m r held after cut stop.More filled =
    cut-off left now m r held after cut stop.More filled filled.has_cut.whole (omega (arith, filled.stop.0, length-take-le cut after filled.has_cut.within))
cut-at left now m r held after cut stop.Read filled =
    cut-off left now m r held after cut stop.Read filled filled.has_cut.whole
    (record { unbroken = filled.stop.unbroken; line = omega (arith, filled.stop.line, length-drop cut after); input = omega (arith, filled.stop.input, length-drop cut after) })
cut-at left now m r held after cut stop.TooLong filled =
    cut-off left now m r held after cut stop.TooLong filled filled.has_cut.whole (long-grows m (r - cut) (drop cut after) (told_of now) filled.stop)
cut-at left now m r held after cut stop.TooLarge filled =
    cut-off left now m r held after cut stop.TooLarge filled filled.has_cut.whole (large-grows m (r - cut) (drop cut after) (told_of now) filled.stop)
cut-at left now m r held after cut stop.End filled =
    let none : drop (length after) after ++ told_of now ≡ [] = λ i. drop_all (length after) after (omega arith) i ++ told-end now filled.stop.0 i in
    record {
      within = omega arith;
      below = filled.stop.1.input;
      short = subst (λ (text : List ℕ). AreShort m (lines_of text)) (sym (take_all (length after) after (omega arith))) (short-whole m r after cut filled.has_cut filled.stop.1.line);
      whole = tt;
      stop = none;
    }

-- what is handed out and what is kept
pub reads-block : (left now : Option (List ℕ)) (m r : ℕ) (held after : List ℕ) (cut : ℕ) (stops : Stop) → FillsBlock left now m r held after cut stops
    → (block : List ℕ) → block ≡ take (block_end stops cut (length after)) after
    → (ahead : Ahead) → ahead ≡ ahead_of m (r - block_end stops cut (length after)) (drop (block_end stops cut (length after)) after)
    → ReadsBlock left now (ahead_of m r held) ahead block stops
reads-block left now m r held after cut stops filled block block_is ahead ahead_is =
    let at = block_end stops cut (length after) in
    let off = cut-at left now m r held after cut stops filled in
    let rest = drop at after ++ told_of now in
    rw (block_is, ahead_is) (record {
      taken = filled.taken;
      moved = sym (take-append-drop at after ∙ filled.behind);
      consumed = filled.consumed;
      rest = rest;
      to = (told_of now, refl, told-is now);
      whole = off.whole;
      short = off.short;
      most_line = refl;
      room = omega (arith, off.below, length-take-le at after off.within);
      stop = off.stop;
    })

told-before : (left now : Option (List ℕ)) (taken behind : List ℕ) → Consumes left now taken → IfSome now (λ told. behind ≡ told) → IfSome left (λ told. taken ++ behind ≡ told)
told-before None now taken behind h is = tt
told-before (Some bytes) None taken behind h is = absurd h
told-before (Some bytes) (Some rest) taken behind h is = ap (λ (xs : List ℕ). taken ++ xs) is ∙ sym h

-- an input behind what was handed out, with that in front of it, is the input before
pub input-before : (left now : Option (List ℕ)) (before after : Ahead) (taken block rest : List ℕ) → before.held ++ taken ≡ block ++ after.held → Consumes left now taken
    → IsInput now after rest → IsInput left before (block ++ rest)
input-before left now before after taken block rest moved consumed to = (
  taken ++ to.0,
  ap (λ (xs : List ℕ). block ++ xs) to.1 ∙ sym (append_assoc block after.held to.0) ∙ ap (λ (xs : List ℕ). xs ++ to.0) (sym moved) ∙ append_assoc before.held taken to.0,
  told-before left now taken to.0 consumed to.2,
)
