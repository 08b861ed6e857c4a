-- Each part from its own bytes, and the image passes where each part does.
-- Assumes nothing.
use mathlib.Core.Path.{refl}
use Rattle.cells.specs.Cells.{header_of}
use Rattle.image.proofs.Rows.{head_pass, found_ok, passed, head_not, entries_not, slots_not, timers_not, all_pass, set_read, set_none, set_some}
use Rattle.image.proofs.set_at.Goals as goal

pub returns-in_err-head : goal.returns-in_err-head
returns-in_err-head c =
    let l = c.args.bytes.now in
    set_none l _ c.from_residual.ensures (head_not l (header_of l 0) refl (found_ok (head_pass l) (header_of l 0) c.in_err-head.ensures.value c.read.ensures))

pub returns-in_err-read_rows : goal.returns-in_err-read_rows
returns-in_err-read_rows c =
    let l = c.args.bytes.now in
    let e = passed _ _ _ (found_ok (head_pass l) (header_of l 0) c.in_ok-head.ensures.value c.read.ensures) in
    set_none l _ c.from_residual-in_err-read_rows.ensures (entries_not l c.in_ok-head.head e.1 c.in_err-read_rows.ensures)

pub returns-in_err-read_rows-2 : goal.returns-in_err-read_rows-2
returns-in_err-read_rows-2 c =
    let l = c.args.bytes.now in
    let e = passed _ _ _ (found_ok (head_pass l) (header_of l 0) c.in_ok-head.ensures.value c.read.ensures) in
    set_none l _ c.from_residual-in_err-read_rows-2.ensures (slots_not l c.in_ok-head.head e.1 c.in_err-read_rows-2.ensures)

pub returns-in_err-read_rows-3 : goal.returns-in_err-read_rows-3
returns-in_err-read_rows-3 c =
    let l = c.args.bytes.now in
    let e = passed _ _ _ (found_ok (head_pass l) (header_of l 0) c.in_ok-head.ensures.value c.read.ensures) in
    set_none l _ c.from_residual-in_err-read_rows-3.ensures (timers_not l c.in_ok-head.head e.1 c.in_err-read_rows-3.ensures)

pub returns : goal.returns
returns c =
    let l = c.args.bytes.now in
    let h = c.in_ok-head.head in
    let e = passed _ h _ (found_ok (head_pass l) (header_of l 0) c.in_ok-head.ensures.value c.read.ensures) in
    let a = c.in_ok-read_rows.ensures in
    let b = c.in_ok-read_rows-2.ensures in
    let d = c.in_ok-read_rows-3.ensures in
    set_some l _ (set_read l h e.1 a.1 b.1 d.1) (all_pass l h e.1 e.0 a.0 b.0 d.0)
