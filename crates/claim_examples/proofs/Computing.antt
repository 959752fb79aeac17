-- What computes in examples, by the part that it belongs to. None of these says anything: to unfold one is to unfold all that its own
-- line names, so that a proof by computing need not list them.
use Rattle.wire_varint.specs.Varint.{varint_from}
use Rattle.wire_schema.specs.Schema.{schema, kind_of, takes}
use Rattle.wire_value.specs.Field.{fixed_at, number_read, part_of, as_number, as_fixed, as_part, payload_at}
use Rattle.wire_varint.specs.Tag.{tag_fits, tag_of, tag_at}
use Rattle.wire_check_field.specs.Check.{step_of, step_read, step_from, step_at}
use Rattle.wire_check_field.specs.Check.{before, on_step, check_from, check_at}
use Rattle.wire_fields.specs.Fields.{field_with, field_of, field_from, field_at, on_field, fields_from, fields_at, among}
use Rattle.wire_fields.specs.Items as i
use Rattle.wire_fields.specs.Items.{items, last_from, bytes_of, every_bytes}
use Rattle.wire_message.specs.Signed.{signed, int64, int32, bool}
use Rattle.wire_message.specs.Message as m
use Rattle.wire_message.specs.Message.{time_spec, time_field, value_of, entry, entries, timed, client_member}
use Rattle.wire_range.specs.Range as g
use Rattle.wire_range.specs.Limits.{up_to, sized, date_fits, moment_fits, is_set, entry_fits, entries_fit}
use Rattle.wire_range.specs.Range.{io_fits}
use Rattle.session_entries.specs.Required as q
use Rattle.wire.specs.Read.{after, member, client_message}
use Rattle.file_format.specs.Digits.{digits, value_from}
use Rattle.file_format.specs.Record.{packed_header, header_bytes, record_bytes, exit_bytes, is_timed, timed_fits, exit_data_fits}
use Rattle.file_format.specs.File as f
use Rattle.base_laws.specs.Base.{splice}
use Rattle.session_turn.specs.Turn as t
use Rattle.session.specs.Step as s

-- ---- messages

-- varints, tags and what stands behind a tag
unfoldable pub tagging : Unit {0}
unfolding varint_from tag_fits tag_of tag_at fixed_at number_read part_of as_number as_fixed as_part payload_at
tagging = tt

-- the check of a message
unfoldable pub checking : Unit {0}
unfolding schema kind_of takes step_of step_read step_from step_at before on_step check_from check_at
checking = tt

-- a message's fields
unfoldable pub listing : Unit {0}
unfolding field_with field_of field_from field_at on_field fields_from fields_at among items last_from bytes_of every_bytes i.number_of
listing = tt

-- what messages mean
unfoldable pub meaning : Unit {0}
unfolding signed int64 int32 bool time_spec time_field value_of entry entries timed client_member m.accept m.exit m.restart m.client_hello
meaning = tt

-- a ClientMessage
unfoldable pub reading : Unit {0}
unfolding tagging checking listing meaning after member client_message
reading = tt

-- ranges and required entries
unfoldable pub ranging : Unit {0}
unfolding up_to sized date_fits moment_fits is_set entry_fits entries_fit io_fits g.accept_fits g.exit_fits g.restart_fits
ranging = tt

unfoldable pub requiring : Unit {0}
unfolding q.same_bytes q.key_bytes q.last_value_from q.string_or_none q.types_from q.has q.missing_from q.entries_refusal
requiring = tt

-- ---- files

-- a record
unfoldable pub storing : Unit {0}
unfolding digits value_from packed_header header_bytes record_bytes exit_bytes is_timed timed_fits exit_data_fits
storing = tt

-- the records of a file
unfoldable pub finding : Unit {0}
unfolding f.file_bytes f.unpacked f.record_at f.with_first f.on_found f.records_from f.records_of
finding = tt

-- what a file is, its totals, and what a restart keeps
unfoldable pub filing : Unit {0}
unfolding storing finding f.time_of f.total f.low_from f.may_follow f.may_end f.rest_kind f.records_kind f.kind_of_records f.file_kind f.meets f.keep
filing = tt

-- ---- a session

-- turns
unfoldable pub turning : Unit {0}
unfolding t.opening t.recording t.greeting t.ending t.turn
turning = tt

-- the tests before a record is stored
unfoldable pub testing : Unit {0}
unfolding splice s.natural s.moment f.within_area s.lengths_fit s.at_mark s.growth_refusal s.room_for
testing = tt

-- each message
unfoldable pub handling : Unit {0}
unfolding s.timed s.entries_first s.accept_stored s.on_accept s.exit_stored s.on_exit s.resumed s.by_kind s.of_records s.on_restart
handling = tt

-- one message of any kind, and the tick
unfoldable pub stepping : Unit {0}
unfolding reading ranging requiring filing turning testing handling s.act s.in_turn s.on_reading s.step s.logging_point s.point_in s.tick
stepping = tt
