use Rattle.std.proofs.Common.{◌∙◌, length, arith, ap}
use Rattle.std.proofs.lemmas.List.{length-append}
use Rattle.index_tree.specs.declared.span.Span.{Span}
use Rattle.index_tree.specs.IndexText.{slot_text}
use Rattle.index_tree.specs.SlotTexts.{plain_slot_at}
use Rattle.index_tree.proofs.SlotTextLaws.{plain_slot_again, slot_read_is, text_was_taken, slot_was_split, moved_was_put, length-slot_text}
use Rattle.index_tree.proofs.slot_text.put_moved.Goals as goal

pub first_slot-requires : goal.first_slot-requires
first_slot-requires c = record { spelled = ((c.requires.0, c.requires.1), ap plain_slot_at c.requires.2 ∙ plain_slot_again c.requires.0 c.requires.1 c.requires.3) }

pub overflow_sub-bytes : goal.overflow_sub-bytes
overflow_sub-bytes c =
    let read = slot_read_is c.requires.0 _ c.requires.1 _ _ _ c.requires.3 c.requires.2 c.first_slot.ensures.slot in
    omega (arith, ap length c.requires.2, ap length read.rest_is, length-append (slot_text c.requires.0) c.requires.1)

pub overflow_sub-text : goal.overflow_sub-text
overflow_sub-text c =
    let read = slot_read_is c.requires.0 _ c.requires.1 _ _ _ c.requires.3 c.requires.2 c.first_slot.ensures.slot in
    let text = text_was_taken c.requires.0 c.args.bytes.now c.requires.1 _ c.split_at.result.0.now c.requires.2 read.rest_is c.split_at.ensures.front in
    omega (arith, ap length text, length-slot_text c.requires.0)

pub split_at-requires-3 : goal.split_at-requires-3
split_at-requires-3 c =
    let read = slot_read_is c.requires.0 _ c.requires.1 _ _ _ c.requires.3 c.requires.2 c.first_slot.ensures.slot in
    let text = text_was_taken c.requires.0 c.args.bytes.now c.requires.1 _ c.split_at.result.0.now c.requires.2 read.rest_is c.split_at.ensures.front in
    omega (arith, ap length text, length-slot_text c.requires.0, c.split_at-2.ensures.back_len)

pub overflow_sub-span : goal.overflow_sub-span
overflow_sub-span c =
    let read = slot_read_is c.requires.0 _ c.requires.1 _ _ _ c.requires.3 c.requires.2 c.first_slot.ensures.slot in
    omega (arith, ap (λ (s : Span). s.part.first_row) read.span_is, c.requires.4.0)

pub overflow_add-span : goal.overflow_add-span
overflow_add-span c =
    let read = slot_read_is c.requires.0 _ c.requires.1 _ _ _ c.requires.3 c.requires.2 c.first_slot.ensures.slot in
    omega (arith, ap (λ (s : Span). s.part.first_row) read.span_is, c.requires.4.0, c.requires.4.1)

pub overflow_cast-span : goal.overflow_cast-span
overflow_cast-span c =
    let read = slot_read_is c.requires.0 _ c.requires.1 _ _ _ c.requires.3 c.requires.2 c.first_slot.ensures.slot in
    omega (arith, ap (λ (s : Span). s.part.first_row) read.span_is, c.requires.4.0, c.requires.4.1)

pub returns : goal.returns
returns c = λ s more is fits.
    let read = slot_read_is s _ more _ _ _ fits is c.first_slot.ensures.slot in
    let text = text_was_taken s c.args.bytes.now more _ c.split_at.result.0.now is read.rest_is c.split_at.ensures.front in
    let split = slot_was_split s c.split_at.result.0.now _ _ text c.split_at-2.ensures.front c.split_at-2.ensures.back in (
      moved_was_put c.args.from c.args.to s _ _ _ _ _ _ _ _ _ split c.split_at-3.ensures.back (ap (λ (x : Span). x.part.first_row) read.span_is) c.in_ok-put_bytes.ensures c.in_ok-put_u32.ensures c.in_ok-put_bytes-2.ensures,
      read.rest_is,
    )
