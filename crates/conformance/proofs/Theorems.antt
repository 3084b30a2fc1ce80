-- The theorems beyond the contracts, each under the sentence of document 01, or of its tender, that it renders; each cites its law.
-- Assumes nothing.
use Rattle.std.proofs.Common.{None}
use Prim.Native.Nat.{ℕ, suc, ◌+◌, ◌*◌, ◌≤◌, ◌<◌}
use mathlib.Core.Path.{◌≡◌}
use mathlib.Core.Bool.{Bool, true, false}
use mathlib.Core.List.{List, ◌++◌}
use mathlib.Core.Logic.{◌↔◌}
use lib.Dec.{leb}
use lib.IntN.{nat_abs}
use lib.ListN.{length, take, drop}
use Rattle.error.specs.Answer.{Answer, gives, refuses, map, is_end}
use Rattle.laws.proofs.Octets.{Octets}
use Rattle.mbi.specs.Bytes.{mbi_bytes}
use Rattle.mbi.specs.Read.{read_mbi}
use Rattle.mbi.proofs.Length.{bytes-five}
use Rattle.mbi.proofs.Prefix.{Final, mbi-prefix}
use Rattle.mbi.proofs.RoundTrip.{read-written}
use Rattle.mbi.proofs.Strict.{Begins, strict-exactly, strict-short}
use Rattle.ext_write.specs.Ceiling.{kind_of, Readable, OfKind}
use Rattle.ext.specs.Kinds.{Fields, none}
use Rattle.ext.specs.Read.{read_fields}
use Rattle.ext_write.specs.Write.{fields_bytes}
use Rattle.ext.proofs.Bounds.{Bounds}
use Rattle.ext.proofs.Bounds as FieldBounds
use Rattle.ext.proofs.Prefix.{decided}
use Rattle.ext.proofs.Prefix as FieldPrefix
use Rattle.ext_write.proofs.ReadBack.{read_back}
use Rattle.header_reader.specs.Internal.Machine.{start}
use Rattle.header_reader.specs.Internal.Pieces.{join, Run}
use Rattle.header.specs.Read.{Outline, outline, read_header}
use Rattle.header_reader.specs.Internal.Represents.{Represents}
use Rattle.header.specs.Settings.{Settings}
use Rattle.header.specs.Write.{fix_byte, header_bytes, ext_header, presented}
use Rattle.header_reader.specs.declared.reader.HeaderReader.{HeaderReader}
use Rattle.header_pieces.proofs.Pieces.{pieces, two-cuts}
use Rattle.header.proofs.Prefix as HeaderPrefix
use Rattle.header.proofs.RoundTrip.{shown, Fitting, header-back}
use Rattle.image.specs.Dots.{bit_at, is_white}
use Rattle.image.specs.Format.{other_format}
use Rattle.image.specs.Geometry.{row_bytes, check_geometry}
use Rattle.image.specs.Rows.{wire_bits, convert_format}
use Rattle.image.specs.declared.PixelFormat.{PixelFormat}
use Rattle.image.specs.declared.PixelFormat.TheVariants.{MonoBlack}
use Rattle.image.proofs.ConvertDots.{Converts, cleared, converted-twice, converted-dots}
use Rattle.image.proofs.WireDots.{wire-padding, wire-dots}
use Rattle.options.specs.Limits.{Decoding}
use Rattle.options.specs.declared.EncodeOptions.{EncodeOptions}
use Rattle.rules.specs.Rule.{Rule, rule_asked, rule_given}
use Rattle.rules.specs.Ordered.{known_side}
use Rattle.rules.specs.Diffusion.{Direction, Scan, residual_at}
use Rattle.quantize.specs.Finished.{setting}
use Rattle.quantize.specs.Finished.{Setting, count, finished}
use Rattle.rules.specs.Ordered.{bound, numbers}
use Rattle.ordered.proofs.OrderedNumbers.{table, table-right, product-form}
use Rattle.quantize.proofs.FinishedGrows.{finished-prefix}
use Rattle.quantize.proofs.FramesJoined.{finished-behind, scans-more}
use Rattle.dither.proofs.ResidualRange.{residual-within}
use Rattle.decoder.specs.Body.{plane_of, frames_in}
use Rattle.decoder.specs.Frames.{decoded}
use Rattle.decoder.specs.Frames as Decoder
use Rattle.decoder.specs.Image.{read_image}
use Rattle.decoder.proofs.After.{refusal-kept}
use Rattle.decoder.proofs.Rest.{past-ceiling, no-plane-more}
use Rattle.encoder.specs.Make.{check_scans, file_of_scans}
use Rattle.encoder.specs.Write.{lent_plane, check_planes, file_of_planes}
use Rattle.encoder.proofs.ScansSurplus as Scans
use Rattle.encoder.proofs.PlanesSurplus as Planes
use Rattle.api.specs.Sniff.{sniffed}
use Rattle.api.specs.declared.Sniffed.TheVariants.{Exact}
use Rattle.decode_session.specs.Model as Reading
use Rattle.decode_session.specs.Session as ReadingSession
use Rattle.decode_session.specs.declared.DecodeSession.{DecodeSession}
use Rattle.decode_session.proofs.Asked.{counted}
use Rattle.conformance.specs.Check.{AllAgree}
use Rattle.conformance.specs.Lists.{Condition3}
use Rattle.conformance.specs.ReadBack.{Taken, Admitted, lent_scan, scan_white, ReadsBack}
use Rattle.conformance.specs.Table as Table
use Rattle.conformance.proofs.Cards.{cards}
use Rattle.conformance.proofs.Condition3.{condition-3}
use Rattle.conformance.proofs.Made.{made-is, made-back, made_plain, made-exact}
use Rattle.conformance.proofs.SniffsExact.{written-exact}
use Rattle.conformance.proofs.Written.{written_back, written-plain}

-- ---- mbi.rs

-- "`read_mbi_u32_strict` .. succeeds exactly where the bytes begin with the writer's output for some u32, and returns that number."
integer-strict : (s : List ℕ) (at : ℕ) → Octets s → (v end : ℕ) → (read_mbi true s at ≡ gives (v, end)) ↔ Begins s at v end
integer-strict = strict-exactly

-- "It never gives 3."
integer-never-three : (s : List ℕ) (at : ℕ) → Octets s → (place : ℕ) → read_mbi true s at ≡ refuses 3 place → ⊥
integer-never-three = strict-short

-- An integer that is written is read back, strictly or not, with anything before and behind it.
integer-back : (strict : Bool) (front : List ℕ) (n : ℕ) (rest : List ℕ) → n < 4294967296
    → read_mbi strict (front ++ (mbi_bytes n ++ rest)) (length front) ≡ gives (n, length front + length (mbi_bytes n))
integer-back = read-written

integer-length : (n : ℕ) → n < 4294967296 → length (mbi_bytes n) ≤ 5
integer-length = bytes-five

-- ---- ext.rs

-- "the fields are at most 4,118 bytes and 1,366 pairs"
fields-bound : (strict follow : Bool) (kind : ℕ) (s : List ℕ) (at : ℕ) (r : Fields × ℕ) → read_fields strict follow kind s at ≡ gives r
    → Bounds follow s at r.0 r.1
fields-bound = FieldBounds.fields-bound

-- Fields that are written are read back, if they are within the ceiling; those that are written strictly also strictly.
fields_back : (written read : Bool) → (read ≡ true → written ≡ true) → (front bytes rest : List ℕ) (f : Fields) → OfKind f → Readable f
    → fields_bytes written f ≡ gives bytes
    → read_fields read true (kind_of f) (front ++ (bytes ++ rest)) (length front) ≡ gives (f, length front + length bytes)
fields_back = read_back

-- ---- header.rs

-- A header that is written is read back by every reader that takes its fields, with anything behind it.
header-read-back : (o : Settings) (strict : Bool) (w h : ℕ) (f : Fields) (bytes rest : List ℕ) → 0 < w → w < 4294967296 → 0 < h
    → h < 4294967296 → Fitting o strict f → fields_bytes strict f ≡ gives bytes
    → read_header o (header_bytes (fix_byte f) bytes w h ++ rest) ≡ gives (shown w h f (length bytes))
header-read-back = header-back

-- Read in pieces, a header is answered as whole, refusals and places too, whatever the cuts.
header-pieces : (o : Settings) {r : HeaderReader} {cut : List (List ℕ)} {a : Answer Outline} → Represents r o start → Run r cut a
    → a ≡ map outline (read_header o (join cut))
header-pieces o = pieces o

header-two-cuts : (o : Settings) {r₁ r₂ : HeaderReader} {cut₁ cut₂ : List (List ℕ)} {a₁ a₂ : Answer Outline} → Represents r₁ o start
    → Represents r₂ o start → join cut₁ ≡ join cut₂ → Run r₁ cut₁ a₁ → Run r₂ cut₂ a₂ → a₁ ≡ a₂
header-two-cuts o = two-cuts o

-- ---- an answer stays when bytes follow, unless the bytes ended (1, 6, 9, 13)

integer-prefix : (strict : Bool) (s rest : List ℕ) (at : ℕ) → Final (read_mbi strict s at)
    → read_mbi strict (s ++ rest) at ≡ read_mbi strict s at
integer-prefix = mbi-prefix

fields-prefix : (strict follow : Bool) (kind : ℕ) (s rest : List ℕ) (at : ℕ) → decided (read_fields strict follow kind s at) ≡ true
    → read_fields strict follow kind (s ++ rest) at ≡ read_fields strict follow kind s at
fields-prefix = FieldPrefix.fields-prefix

header-prefix : (o : Settings) (s rest : List ℕ) → decided (read_header o s) ≡ true → read_header o (s ++ rest) ≡ read_header o s
header-prefix = HeaderPrefix.header-prefix

-- ---- image.rs

-- "`wire_bits` inverts MonoWhite and clears padding": each dot is kept, and each padding bit is 0.
wire-keeps-dots : (f : PixelFormat) (w h s : ℕ) (plane : List ℕ) → check_geometry w h s (length plane) ≡ gives tt → Octets plane
    → (x y : ℕ) → is_white MonoBlack w h (row_bytes w) (wire_bits f w h s plane) x y ≡ is_white f w h s plane x y
wire-keeps-dots = wire-dots

wire-clears-padding : (f : PixelFormat) (w h s : ℕ) (plane : List ℕ) (x y : ℕ) → w ≤ x → x < row_bytes w * 8 → y < h
    → bit_at (row_bytes w) (wire_bits f w h s plane) x y ≡ 0
wire-clears-padding = wire-padding

-- "`convert_format` to MonoWhite inverts and clears it": each dot is kept, and twice gives the bytes with their padding clear.
convert-keeps-dots : (f : PixelFormat) (w h s : ℕ) (plane : List ℕ) → check_geometry w h s (length plane) ≡ gives tt → Octets plane
    → (x y : ℕ) → is_white (other_format f) w h s (convert_format f (other_format f) w h s plane) x y ≡ is_white f w h s plane x y
convert-keeps-dots = converted-dots

convert-twice : (f : PixelFormat) (w h s : ℕ) (plane : List ℕ) → check_geometry w h s (length plane) ≡ gives tt → Octets plane
    → Converts w h s (cleared w) plane (convert_format (other_format f) f w h s (convert_format f (other_format f) w h s plane))
convert-twice = converted-twice

-- ---- quantize.rs and the ordered rule

-- "The residual stays within -128..128", of rows that run in any directions.
residuals-within : (dirs : ℕ → Direction) (w : ℕ) (scan : Scan) → ((x y : ℕ) → scan x y < 256) → (x y : ℕ)
    → nat_abs (residual_at dirs w scan x y) ≤ 128
residuals-within = residual-within

-- "The 64 numbers for side 8 stand as a table, proved to follow this."
ordered-table : table ≡ numbers 3
ordered-table = table-right

-- "white if gray >= (256n + 128) / (side × side)", as a product
ordered-product : (side n gray : ℕ) → known_side side ≡ true → leb (bound side n) gray ≡ leb (256 * n + 128) (gray * (side * side))
ordered-product = product-form

-- What samples have finished stays, whatever follows.
finished-stays : (s : Setting) → 0 < s.width → (n : ℕ) (xs : List ℕ) → n ≤ length xs
    → finished s (take n xs) ≡ take (count s n) (finished s xs)
finished-stays = finished-prefix

-- "Each frame starts with clean carries, so its dots depend on its own scan only": behind whole frames making starts anew.
frames-apart : (s : Setting) (xs ys : List ℕ) (k : ℕ) → 0 < s.width → 0 < s.height → length xs ≡ k * s.height * s.width
    → finished s (xs ++ ys) ≡ finished s xs ++ finished s ys
frames-apart = finished-behind

-- "Whole making takes a count and that many scans end to end": each scan's plane stands behind those before it.
scans-joined : (rule : Rule) (w h : ℕ) (gray : List ℕ) → 0 < w → 0 < h → (k : ℕ) → k * (w * h) ≤ length gray
    → finished (setting rule w h (suc k)) (take (suc k * (w * h)) gray)
    ≡ finished (setting rule w h k) (take (k * (w * h)) gray) ++ finished (setting rule w h 1) (take (w * h) (drop (k * (w * h)) gray))
scans-joined = scans-more

-- ---- decoder.rs

-- "Extra frames are whole planes only, at most 15; the rest is ignored": bytes behind the last frame of the ceiling, and those that
-- complete no further plane, change nothing.
rest-ignored : (s rest : List ℕ) (ceiling : ℕ) (d : Decoding) (h : Outline) → read_image d s ≡ gives h → 0 < ceiling
    → frames_in ceiling (length s) h ≡ ceiling → (room : ℕ)
    → (decoded ceiling d (s ++ rest) room ≡ decoded ceiling d s room) × (Decoder.shown ceiling d (s ++ rest) ≡ Decoder.shown ceiling d s)
rest-ignored = past-ceiling

begun-plane-ignored : (s rest : List ℕ) (ceiling : ℕ) (d : Decoding) (h : Outline) → read_image d s ≡ gives h
    → length (s ++ rest) < h.body + (1 + frames_in ceiling (length s) h) * plane_of h → (room : ℕ)
    → (decoded ceiling d (s ++ rest) room ≡ decoded ceiling d s room) × (Decoder.shown ceiling d (s ++ rest) ≡ Decoder.shown ceiling d s)
begun-plane-ignored = no-plane-more

-- A refusal other than 1, 6, 9, 13, 20 and 25 stays when bytes follow.
refusal-stays : (s rest : List ℕ) (ceiling : ℕ) (d : Decoding) (room code place : ℕ) → is_end code ≡ false → (code ≡ 25 → ⊥)
    → decoded ceiling d s room ≡ refuses code place → decoded ceiling d (s ++ rest) room ≡ refuses code place
refusal-stays = refusal-kept

-- ---- encoder.rs and "Several frames"

-- "Surplus is ignored", of planes and of scans.
planes-surplus : (w h stride : ℕ) (f : PixelFormat) (planes rest : List ℕ) (ceiling : ℕ) (o : EncodeOptions) (n : ℕ) (text lengths : List ℕ)
    → check_planes ceiling w h n stride (length planes) ≡ gives tt
    → file_of_planes ceiling o f w h n stride (planes ++ rest) text lengths ≡ file_of_planes ceiling o f w h n stride planes text lengths
planes-surplus = Planes.surplus-ignored

scans-surplus : (ceiling : ℕ) (o : EncodeOptions) (w h n : ℕ) (gray rest text lengths : List ℕ) (work : ℕ)
    → check_scans ceiling o w h n (length gray) work ≡ gives tt
    → file_of_scans ceiling o w h n (gray ++ rest) text lengths work ≡ file_of_scans ceiling o w h n gray text lengths work
scans-surplus = Scans.surplus-ignored

-- Whole making gives the header and the bytes that the samples of all scans finish.
made-whole : (ceiling : ℕ) (o : EncodeOptions) (w h n : ℕ) (gray text lengths : List ℕ) (work : ℕ) (header : List ℕ)
    → check_scans ceiling o w h n (length gray) work ≡ gives tt → ext_header o.strict w h o.ext text lengths ≡ gives header
    → file_of_scans ceiling o w h n gray text lengths work
    ≡ gives (header ++ finished (setting (rule_given (rule_asked o)) w h n) (take (n * (w * h)) gray))
made-whole = made-is

-- ---- whole files, written or made, are read back (the tender's condition 2)

-- A reading that takes the fields and admits the size shows the planes that were lent, dot for dot; one without fields every reading.
written-shown : (ceiling most : ℕ) (d : Decoding) (o : EncodeOptions) (f : PixelFormat) (w h n stride : ℕ)
    (planes text lengths bytes : List ℕ) (fields : Fields) → w < 4294967296 → h < 4294967296 → 1 ≤ most → Octets planes
    → presented o.ext text lengths ≡ gives fields → Taken d.mode o.strict fields → Admitted d w h
    → file_of_planes ceiling o f w h n stride planes text lengths ≡ gives bytes
    → ReadsBack most d bytes w h fields n (λ k. wire_bits f w h stride (lent_plane w h stride planes k))
    (λ k. is_white f w h stride (lent_plane w h stride planes k))
written-shown = written_back

written-shown-plain : (ceiling most : ℕ) (d : Decoding) (o : EncodeOptions) (f : PixelFormat) (w h n stride : ℕ)
    (planes text lengths bytes : List ℕ) → w < 4294967296 → h < 4294967296 → 1 ≤ most → Octets planes → o.ext ≡ None → Admitted d w h
    → file_of_planes ceiling o f w h n stride planes text lengths ≡ gives bytes
    → ReadsBack most d bytes w h none n (λ k. wire_bits f w h stride (lent_plane w h stride planes k))
    (λ k. is_white f w h stride (lent_plane w h stride planes k))
written-shown-plain = written-plain

-- The same of scans: the dots are those that the rule gives them.
made-shown : (ceiling most : ℕ) (d : Decoding) (o : EncodeOptions) (w h n : ℕ) (gray text lengths : List ℕ) (work : ℕ) (bytes : List ℕ)
    (fields : Fields) → w < 4294967296 → h < 4294967296 → 1 ≤ most → presented o.ext text lengths ≡ gives fields
    → Taken d.mode o.strict fields → Admitted d w h → file_of_scans ceiling o w h n gray text lengths work ≡ gives bytes
    → ReadsBack most d bytes w h fields n (λ k. finished (setting (rule_given (rule_asked o)) w h 1) (lent_scan w h gray k))
    (λ k. scan_white (rule_given (rule_asked o)) w h (lent_scan w h gray k))
made-shown = made-back

made-shown-plain : (ceiling most : ℕ) (d : Decoding) (o : EncodeOptions) (w h n : ℕ) (gray text lengths : List ℕ) (work : ℕ)
    (bytes : List ℕ)
    → w < 4294967296 → h < 4294967296 → 1 ≤ most → o.ext ≡ None → Admitted d w h
    → file_of_scans ceiling o w h n gray text lengths work ≡ gives bytes
    → ReadsBack most d bytes w h none n (λ k. finished (setting (rule_given (rule_asked o)) w h 1) (lent_scan w h gray k))
    (λ k. scan_white (rule_given (rule_asked o)) w h (lent_scan w h gray k))
made-shown-plain = made_plain

-- "exact for 1-16 frames and no rest": so every file is sniffed that is written or made without fields and with sizes up to 16,384.
written-sniffed : (o : EncodeOptions) (f : PixelFormat) (w h n stride : ℕ) (planes text lengths bytes : List ℕ) → o.ext ≡ None
    → w ≤ 16384 → h ≤ 16384 → file_of_planes 16 o f w h n stride planes text lengths ≡ gives bytes → sniffed bytes ≡ Exact
written-sniffed = written-exact

made-sniffed : (o : EncodeOptions) (w h n : ℕ) (gray text lengths : List ℕ) (work : ℕ) (bytes : List ℕ) → o.ext ≡ None → w ≤ 16384
    → h ≤ 16384 → file_of_scans 16 o w h n gray text lengths work ≡ gives bytes → sniffed bytes ≡ Exact
made-sniffed = made-exact

-- ---- "P1-P12 form one table with a single theorem about the definitions."

stated-cards : AllAgree Table.table
stated-cards = cards

-- ---- sessions

-- "Closing gives the frame count": so many frames as a session says are done.
frames-counted : (s : DecodeSession) (m : Reading.Model) (n : ℕ) → ReadingSession.Stands s m
    → Reading.closing m m.met ≡ gives (Reading.frames n) → ReadingSession.frames_done m ≡ n
frames-counted = counted

-- "Condition 3 is a single claim about lists, not one for each call."
lists : Condition3
lists = condition-3
