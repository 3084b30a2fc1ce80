-- What is known of a header that is still being read.
use Rattle.std.proofs.Common.{◌≡◌, ℕ, ◌<◌, List, [], sym, refl, ap, ◌∙◌, arith}
use Rattle.error.specs.Answer.{refusal, map}
use Rattle.error.specs.declared.WbmpError.{WbmpError}
use Rattle.mbi.specs.Read.{read_rest}
use Rattle.header.specs.Settings.{Settings}
use Rattle.header.specs.Read.{outline, read_header}
use Rattle.header_reader.specs.Known.{fields_known, known_meaning, Knows}
use Rattle.header_reader.specs.Internal.Machine.{State, in_type, at_fix, in_octets, at_octet, at_pair, in_identifier, in_value, in_width}
use Rattle.header_reader.specs.Internal.Machine.{in_height, Step, more, start, steps, resume, after}
use Rattle.header_reader.specs.Internal.Standing.{Reachable}
use Rattle.header_reader.specs.Internal.Represents.{Represents, ReaderEnded}
use Rattle.header_reader.specs.declared.FieldsSeen.{FieldsSeen}
use Rattle.header_reader.specs.declared.reader.HeaderReader.{HeaderReader}
use Rattle.header_reader.proofs.Machine.{steps_all}
use Rattle.header_pieces.proofs.Direct.{direct}
use Rattle.header_pieces.proofs.BytesTaken.{taken, taken-steps}
use Rattle.header_pieces.proofs.KnownFields.{known_so}
use Rattle.header_pieces.specs.Extension.{field_bytes}
use Rattle.header_pieces.specs.Internal.Head.{Reached}

module _ (o : Settings) where
  -- nothing is taken yet
  pub reached-none : (r : HeaderReader) → Represents r o start → Reached o [] r 0 0
  unfolding steps field_bytes read_rest
  reached-none r h = record { state = start; represents = h; reached = refl; at_is = refl; kept_is = refl }

  -- a reading that goes on has no header yet
  pub unread : (s : List ℕ) (st : State) → steps o start s ≡ more st → map outline (read_header o s) ≡ resume o st []
  unread s st e = direct o s ∙ steps_all o s start ∙ ap (λ (x : Step). after o x []) e

  -- where it stands
  taken-bound : (st : State) → Reachable st → taken st < 8192
  taken-bound (in_type at v n) h = omega arith
  taken-bound (at_fix at) h = omega arith
  taken-bound (in_octets fix from at) h = omega arith
  taken-bound (at_octet fix at) h = omega arith
  taken-bound (at_pair fix from at pairs) h = omega arith
  taken-bound (in_identifier fix from at pairs begun left size again fault) h = omega arith
  taken-bound (in_value fix from at pairs begun left again fault) h = omega arith
  taken-bound (in_width fix f at v n) h = omega arith
  taken-bound (in_height fix f w at v n) h = omega arith

  module _ (bytes : List ℕ) (r : HeaderReader) (at kept : ℕ) (h : Reached o bytes r at kept) where
    pub reached-bound : at < 8192
    reached-bound =
        let a = taken-steps o bytes start h.state h.reached in
        let b = taken-bound h.state h.represents.reachable in
        omega (arith, h.at_is)

    -- what its reader tells
    pub tells-fields : (f : FieldsSeen) → Knows r f → known_meaning f ≡ fields_known o bytes
    tells-fields f k = k.does o h.state h.represents ∙ sym (known_so o bytes h.state h.reached)

    pub tells-end : (e : WbmpError) → ReaderEnded r e → refusal e ≡ map outline (read_header o bytes)
    tells-end e k = k.does o h.state h.represents ∙ sym (unread bytes h.state h.reached)
