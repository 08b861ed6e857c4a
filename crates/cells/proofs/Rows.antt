-- Records and their bytes, worked out by hand from docs/IMAGE.md, and bytes that do not pass: one bit of a record each time.
-- Assumes nothing.
use mathlib.Core.Path.{◌≡◌, refl}
use mathlib.Core.Bool.{true, false}
use mathlib.Core.List.{[], ◌∷◌}
use Rattle.std.specs.Prelude.{Some, None}
use Rattle.heap.specs.declared.SlotState.TheVariants.{Full, Empty}
use Rattle.state.specs.declared.Life.TheVariants.{Live, Cancelled, Retired}
use Rattle.state.specs.declared.Waiting.TheVariants.{No, Last, Before}
use Rattle.cells.specs.Cells.{header_bytes, entry_bytes, slot_bytes, timer_bytes}
use Rattle.cells.specs.Fine.{header_clear, header_in, slot_clear, slot_in, timer_clear, timer_in}

a_header : header_bytes (record { closed = true; first = Some (record { 0 = 7 }); len = 256; made = 256; free = record { 0 = 255 } })
    ≡ 1 ∷ 3 ∷ 7 ∷ 1 ∷ 0 ∷ 1 ∷ 0 ∷ 0 ∷ 255 ∷ []
unfolding header_bytes
a_header = refl

an_entry : entry_bytes (record { at = 258; generation = 65536; place = record { 0 = 7 }; slot = record { 0 = 255 } })
    ≡ 0 ∷ 0 ∷ 0 ∷ 0 ∷ 0 ∷ 0 ∷ 1 ∷ 2 ∷ 0 ∷ 1 ∷ 0 ∷ 0 ∷ 7 ∷ 255 ∷ []
unfolding entry_bytes
an_entry = refl

a_full_slot : slot_bytes (record { state = Full (record { 0 = 5 }) }) ≡ 128 ∷ 5 ∷ []
unfolding slot_bytes
a_full_slot = refl

the_last_slot : slot_bytes (record { state = Empty (record { 0 = 256 }) }) ≡ 1 ∷ 0 ∷ []
unfolding slot_bytes
the_last_slot = refl

a_live_timer : timer_bytes (record { life = Live 260 9; waiting = Before (record { 0 = 3 }); held = Some (record { 0 = 4 }); uses = 1 })
    ≡ 74 ∷ 3 ∷ 4 ∷ 0 ∷ 0 ∷ 0 ∷ 1 ∷ 0 ∷ 0 ∷ 1 ∷ 4 ∷ 0 ∷ 0 ∷ 0 ∷ 0 ∷ 0 ∷ 0 ∷ 0 ∷ 9 ∷ []
unfolding timer_bytes
a_live_timer = refl

a_cancelled_timer : timer_bytes (record { life = Cancelled 1; waiting = Last; held = None; uses = 2 })
    ≡ 132 ∷ 0 ∷ 0 ∷ 0 ∷ 0 ∷ 0 ∷ 2 ∷ 0 ∷ 0 ∷ 0 ∷ 1 ∷ 0 ∷ 0 ∷ 0 ∷ 0 ∷ 0 ∷ 0 ∷ 0 ∷ 0 ∷ []
unfolding timer_bytes
a_cancelled_timer = refl

a_retired_place : timer_bytes (record { life = Retired; waiting = No; held = None; uses = 256 })
    ≡ 192 ∷ 0 ∷ 0 ∷ 0 ∷ 0 ∷ 1 ∷ 0 ∷ 0 ∷ 0 ∷ 0 ∷ 0 ∷ 0 ∷ 0 ∷ 0 ∷ 0 ∷ 0 ∷ 0 ∷ 0 ∷ 0 ∷ []
unfolding timer_bytes
a_retired_place = refl

-- a head's place beside no head; the number of another format; a count of 257
spare_head : header_clear (1 ∷ 0 ∷ 7 ∷ 0 ∷ 0 ∷ 0 ∷ 0 ∷ 0 ∷ 0 ∷ []) 0 ≡ false
unfolding header_clear
spare_head = refl

format_two : header_in (2 ∷ 0 ∷ 0 ∷ 0 ∷ 0 ∷ 0 ∷ 0 ∷ 0 ∷ 0 ∷ []) 0 ≡ false
unfolding header_in
format_two = refl

count_257 : header_in (1 ∷ 0 ∷ 0 ∷ 1 ∷ 1 ∷ 0 ∷ 0 ∷ 0 ∷ 0 ∷ []) 0 ≡ false
unfolding header_in
count_257 = refl

-- a bit between the mark and the position; a full slot with the position 256
slot_gap : slot_clear (130 ∷ 5 ∷ []) 0 ≡ false
unfolding slot_clear
slot_gap = refl

full_256 : slot_in (129 ∷ 0 ∷ []) 0 ≡ false
unfolding slot_in
full_256 = refl

-- of a free place: bit 4 of the tags, a word, a deadline; and waiting 3
tag_spare : timer_clear (16 ∷ 0 ∷ 0 ∷ 0 ∷ 0 ∷ 0 ∷ 0 ∷ 0 ∷ 0 ∷ 0 ∷ 0 ∷ 0 ∷ 0 ∷ 0 ∷ 0 ∷ 0 ∷ 0 ∷ 0 ∷ 0 ∷ []) 0 ≡ false
unfolding timer_clear
tag_spare = refl

word_spare : timer_clear (0 ∷ 0 ∷ 0 ∷ 0 ∷ 0 ∷ 0 ∷ 0 ∷ 0 ∷ 0 ∷ 0 ∷ 1 ∷ 0 ∷ 0 ∷ 0 ∷ 0 ∷ 0 ∷ 0 ∷ 0 ∷ 0 ∷ []) 0 ≡ false
unfolding timer_clear
word_spare = refl

due_spare : timer_clear (128 ∷ 0 ∷ 0 ∷ 0 ∷ 0 ∷ 0 ∷ 0 ∷ 0 ∷ 0 ∷ 0 ∷ 1 ∷ 0 ∷ 0 ∷ 0 ∷ 0 ∷ 0 ∷ 0 ∷ 0 ∷ 9 ∷ []) 0 ≡ false
unfolding timer_clear
due_spare = refl

waiting_three : timer_in (12 ∷ 0 ∷ 0 ∷ 0 ∷ 0 ∷ 0 ∷ 0 ∷ 0 ∷ 0 ∷ 0 ∷ 0 ∷ 0 ∷ 0 ∷ 0 ∷ 0 ∷ 0 ∷ 0 ∷ 0 ∷ 0 ∷ []) 0 ≡ false
unfolding timer_in
waiting_three = refl
