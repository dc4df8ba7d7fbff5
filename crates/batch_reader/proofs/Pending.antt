-- An input that is read block by block, one of them ahead of the rows.
use Rattle.std.proofs.Common.{◌≡◌, ℕ, List, Option, Ok, Err, refl, ◌∙◌, subst}
use Rattle.value_types.specs.declared.ty.Ty.{Ty}
use Rattle.tsv_text.specs.Lines.{lines_of}
use Rattle.columns.specs.Rows.{Rows, no_rows}
use Rattle.scalar_texts.specs.States.{ReadsStates}
use Rattle.line_reader.specs.Ahead.{Ahead}
use Rattle.line_reader.specs.Answers.{ReadsBlock}
use Rattle.line_reader.specs.Filling.{FillCause}
use Rattle.line_reader.specs.declared.stop.Stop.{Stop}
use Rattle.line_reader.specs.declared.stop.Stop.TheVariants as stop
use Rattle.batch_reader.specs.proving.Pieces.{AreOf}
use Rattle.batch_reader.specs.proving.Pushing.{PushesBlock, PushesText}
use Rattle.batch_reader.specs.Reading.{ReadsRows}
use Rattle.batch_reader.specs.declared.fault.RowFault.{RowFault}
use Rattle.batch_reader.specs.declared.lane.Lane.{Lane}
use Rattle.batch_reader.proofs.Blocks.{Exit, IsReadTo, read-more, read-refused, read-start, stop-answer}

-- The rows of all blocks but the last that was read are in the batch, and nothing failed before that block.
pub record IsPending (reads : ReadsStates) (types : List Ty) (left now : Option (List ℕ)) (first ahead : Ahead) (batch : Rows) (block : List ℕ) (stops : Stop) (before count : ℕ) (lanes : List Lane) : Type 0 where
  pub mid : Option (List ℕ)
  pub held : Ahead
  pub faults : ℕ
  pub read : IsReadTo reads types left mid first held batch stop.More
  pub one : ReadsBlock mid now held ahead block stops
  pub quiet : faults ≡ before
  pub cause : FillCause faults count stops
  pub types_are : AreOf types lanes

pub first-block : (reads : ReadsStates) (types : List Ty) (left now : Option (List ℕ)) (first ahead : Ahead) (batch : Rows) (block : List ℕ) (stops : Stop) (before count : ℕ) (lanes : List Lane)
    → batch ≡ no_rows types → ReadsBlock left now first ahead block stops → FillCause before count stops → AreOf types lanes → IsPending reads types left now first ahead batch block stops before count lanes
first-block reads types left now first ahead batch block stops before count lanes none one cause of =
    record { mid = left; held = first; faults = before; read = read-start reads types left first batch none; one = one; quiet = refl; cause = cause; types_are = of }

-- its rows, and one block more
pub next-block : (reads : ReadsStates) (types : List Ty) (left now later : Option (List ℕ)) (first ahead after : Ahead) (batch next : Rows) (block behind : List ℕ) (stops told : Stop) (before count more : ℕ) (lanes kept : List Lane)
    → IsPending reads types left now first ahead batch block stops before count lanes → stops ≡ stop.More → PushesText reads batch (lines_of block) next (Ok tt)
    → ReadsBlock now later ahead after behind told → FillCause count more told → AreOf types kept → IsPending reads types left later first after next behind told before more kept
next-block reads types left now later first ahead after batch next block behind stops told before count more lanes kept so_far is pushed one cause of =
    let this = subst (ReadsBlock so_far.mid now so_far.held ahead block) is so_far.one in
    record {
      mid = now;
      held = ahead;
      faults = count;
      read = read-more reads types left so_far.mid now first so_far.held ahead batch next block stop.More so_far.read this pushed.0 pushed.1 pushed.2;
      one = one;
      quiet = subst (FillCause so_far.faults count) is so_far.cause ∙ so_far.quiet;
      cause = cause;
      types_are = of;
    }

-- a refused row in it
pub pending-refused : (reads : ReadsStates) (types : List Ty) (left now later : Option (List ℕ)) (first ahead : Ahead) (batch next : Rows) (block : List ℕ) (stops : Stop) (before count : ℕ) (lanes : List Lane) (f : RowFault)
    → IsPending reads types left now first ahead batch block stops before count lanes → PushesBlock reads batch (lines_of block) next (Err f) → ReadsRows reads types left later first (Err f)
pending-refused reads types left now later first ahead batch next block stops before count lanes f so_far pushed =
    read-refused reads types left so_far.mid now later first so_far.held ahead batch next block stops so_far.read so_far.one f pushed

-- its rows, where it is the last
pub last-block : (reads : ReadsStates) (types : List Ty) (left now : Option (List ℕ)) (first ahead : Ahead) (batch next : Rows) (block text : List ℕ) (stops told : Stop) (before count n : ℕ) (lanes : List Lane)
    → IsPending reads types left now first ahead batch block stops before count lanes → text ≡ block → PushesBlock reads batch (lines_of text) next (Ok n) → stops ≡ told → Exit reads types left now first ahead next n told
last-block reads types left now first ahead batch next block text stops told before count n lanes so_far same pushed is =
    stop-answer reads types left so_far.mid now first so_far.held ahead batch next block text n stops told so_far.read so_far.one same pushed is
