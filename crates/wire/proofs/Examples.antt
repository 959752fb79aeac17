-- The marked examples compute.
use mathlib.Core.Path.{refl}
use Rattle.wire_frame.specs.Frame.{cut_of, length_of}
use Rattle.wire_varint.specs.Varint.{varint_from}
use Rattle.wire_schema.specs.Schema.{schema, kind_of, takes}
use Rattle.wire_value.specs.Field.{fixed_at, number_read, part_of, as_number, as_fixed, as_part, payload_at}
use Rattle.wire_varint.specs.Tag.{tag_fits, tag_of, tag_at}
use Rattle.wire_check_field.specs.Check.{step_of, step_read, step_from, step_at}
use Rattle.wire_check_field.specs.Check.{before, on_step, check_from, check_at}
use Rattle.wire_fields.specs.Fields.{field_with, field_of, field_from, field_at, on_field, fields_from, fields_at, among}
use Rattle.wire_fields.specs.Items as i
use Rattle.wire_fields.specs.Items.{items, last_from, bytes_of}
use Rattle.wire_message.specs.Signed.{signed, int64, int32}
use Rattle.wire_message.specs.Message.{time_spec, time_field, timed, client_member, server_member}
use Rattle.wire.specs.Read.{after, member, client_message, server_message}
use Rattle.wire.specs.Examples.{ReadingExamples}

pub reading_examples : ReadingExamples
unfolding cut_of length_of varint_from schema kind_of takes tag_fits tag_of tag_at fixed_at number_read part_of as_number as_fixed as_part payload_at step_of step_read step_from step_at before on_step check_from check_at field_with field_of field_from field_at on_field fields_from fields_at among items last_from bytes_of i.number_of signed int64 int32 time_spec time_field timed client_member server_member after member client_message server_message
reading_examples = record {
  one = refl;
  two_frame = refl;
  two = refl;
  four_minus_one = refl;
  four_least = refl;
  four_greatest = refl;
  five = refl;
  six_frame = refl;
  six = refl;
}
