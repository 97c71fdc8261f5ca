use Rattle.texts.proofs.Outside.{option_map, sym, ap, ◌∙◌, bytes_eq, state, clean_before, is_bytes_of}
use Rattle.texts.specs.Texts.{bytes_named}
use Rattle.texts.specs.Inner.Calls.{is_piece_of}
use Rattle.texts.proofs.OnePiece.{got_behind}
use Rattle.texts.proofs.texts.same_piece.Goals as goal

pub returns-in-Some : goal.returns-in-Some
returns-in-Some g c =
    let id = c.in-Some.id in
    let piece = c.args.piece.now in
    let s0 = state g.S.Store c.args.conn.now in
    let s1 = state g.S.Store c.find.new.conn in
    let s2 = state g.S.Store c.same.new.conn in
    let find = c.in_ok-found.ensures in
    let same = c.same.ensures in
    record {
      mode = λ idle. same.mode (find.mode idle);
      gets = λ clean.
          let read = find.read (same.so_far clean) in
          got_behind (is_bytes_of id.key id.twin piece) (is_piece_of c.args.org.now c.args.ws.now c.args.number c.args.place piece) s0 s1 s2 c.same.result
          (λ t holds. ap (λ o. option_map (λ bytes. bytes_eq bytes piece) (bytes_named o t)) (sym c.in-Some.is ∙ read.0 t holds)) read.1.0 (same.gets clean);
      so_far = λ clean. clean_before s0 s1 _ find.survives (same.so_far clean);
      shield = λ s. same.shield (find.survives.shield s);
    }
