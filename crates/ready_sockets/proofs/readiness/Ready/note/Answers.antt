use Rattle.std.proofs.Common.{◌≡◌, subst, Some}
use Rattle.ready_sockets.specs.Trying.{Noted}
use Rattle.ready_sockets.specs.Tokens.{token_of}
use Rattle.ready_sockets.proofs.Noting.{noted_more, noted_stay}
use Rattle.ready_sockets.proofs.readiness.Ready.note.Goals as goal

pub returns-in-Some : goal.returns-in-Some
returns-in-Some g c = record {
  noted = λ origin has is.
      let token : token_of origin ≡ c.token.result.0 = cc in
      let found : c.of.result ≡ Some origin = c.of.ensures.some origin has token in
      let same : c.in-Some.origin ≡ origin = cc in
      subst (λ o. Noted o c.args.self.now c.add.new.self) same c.add.ensures;
  stay = noted_more c.in-Some.origin c.args.self.now c.args.self.now c.add.new.self
      (noted_stay c.args.self.now) c.add.ensures;
}
