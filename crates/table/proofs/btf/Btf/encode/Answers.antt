use Rattle.std.proofs.Common.{◌≡◌, ◌+◌, ◌≤◌, ◌++◌, map, length, take, sym, ap, ◌∙◌, arith, length-take, rules}
use Rattle.std.proofs.lemmas.Grind.{common_steps}
use Rattle.meaning.specs.Table.{text}
use Rattle.meaning.specs.File.{header, type_part, type_bytes}
use Rattle.rows.specs.Rows.{decl_of}
use Rattle.table.specs.Tables.{table_of, Seen}
use Rattle.table.proofs.Checks.{asked_held}
use Rattle.table.proofs.Encodes.{bytes_stated, bytes_in_view, encode_fits}
use Rattle.table.proofs.Writes.{header_long}
use Rattle.table.proofs.Writing.{wrote_on, wrote_as}
use Rattle.table.proofs.btf.Btf.encode.Goals as goal

pub rows-requires-clause-room : goal.rows-requires-clause-room
rows-requires-clause-room g c =
    let s = c.args.self.now in
    let counted = bytes_in_view s c.args.strings.now c.in_ok-view.view c.in_ok-view.ensures in
    let at = c.header.ensures.at in
    let long = c.header.ensures.long in
    omega (arith, header_long g.O.ByteOrder.order s.type_bytes s.string_len)

pub bytes-requires : goal.bytes-requires
bytes-requires g c =
    let s = c.args.self.now in
    let view = asked_held (table_of s c.args.strings.now) _ _ c.in_ok-view.ensures in
    let counted = bytes_in_view s c.args.strings.now c.in_ok-view.view c.in_ok-view.ensures in
    let texts : length c.in_ok-view.view.strings.now ≡ length (take s.string_len c.args.strings.now) = ap (λ (x : Seen). length x.strings) view.1 in
    let at = c.header.ensures.at in
    let long = c.header.ensures.long in
    let end = c.rows.ensures.end in
    let longer = c.rows.ensures.bytes.long in
    omega (arith, header_long g.O.ByteOrder.order s.type_bytes s.string_len, length-take s.string_len c.args.strings.now)

pub returns : goal.returns
returns g c =
    let o = g.O.ByteOrder.order in
    let s = c.args.self.now in
    let strings = c.args.strings.now in
    let t = table_of s strings in
    let bytes = s.type_bytes in
    let stated : bytes ≡ type_bytes t.decls = sym (bytes_stated s strings) in
    let view = asked_held t _ _ c.in_ok-view.ensures in
    let within : s.string_len ≤ length strings = grind (arith, common_steps, view.0) in
    let long : length (text t) ≡ s.string_len = length-take s.string_len strings ∙ omega arith in
    let counted = bytes_in_view s strings c.in_ok-view.view c.in_ok-view.ensures in
    let types = wrote_as (ap (λ (x : Seen). type_part o (map (decl_of x.elements) x.rows)) view.1) c.rows.ensures.bytes in
    let texts = wrote_as (ap (λ (x : Seen). x.strings) view.1) c.bytes.ensures in
    let head = header_long o bytes s.string_len in
    let first = c.header.ensures.at in
    let second = c.rows.ensures.end in
    let third = texts.at in
    let typed = wrote_on _ c.header.new.self c.rows.new.self (header o bytes s.string_len) (type_part o t.decls) c.header.ensures types (omega arith) in
    let whole = wrote_on _ c.rows.new.self c.bytes.new.self (header o bytes s.string_len ++ type_part o t.decls) (text t) typed texts (omega arith) in
    let wrote = wrote_as (ap (λ n. (header o n t.strings ++ type_part o t.decls) ++ text t) stated) whole in
    let end = wrote.at in
    record {
      file = encode_fits o t c.args.out.now (24 + bytes + s.string_len) _ view.0 (ap (λ n. 24 + n + s.string_len) stated) c.if-out-needed.false (search rules);
      whole = omega arith;
    }
