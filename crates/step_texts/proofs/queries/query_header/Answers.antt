use Rattle.std.proofs.Common.{rules}
use Rattle.step_texts.proofs.queries.query_header.Goals as goal

pub returns-clause-header : goal.returns-clause-header
returns-clause-header c = search rules
