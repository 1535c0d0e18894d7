use Rattle.std.proofs.Common.{sym}
use Rattle.device_requests.proofs.PathAlone.{alone_understood, alone_accept, alone_query, alone_content_format}
use Rattle.device_requests.proofs.PathAlone.{alone_observe}
use Rattle.device_requests.proofs.options.request_options.Goals as goal

pub returns-then-is_path_alone-clause-understood : goal.returns-then-is_path_alone-clause-understood
returns-then-is_path_alone-clause-understood c =
    alone_understood c.args.options.now (sym c.if-is_path_alone.ensures)

pub returns-then-is_path_alone-clause-accept : goal.returns-then-is_path_alone-clause-accept
returns-then-is_path_alone-clause-accept c = alone_accept c.args.options.now (sym c.if-is_path_alone.ensures)

pub returns-then-is_path_alone-clause-query : goal.returns-then-is_path_alone-clause-query
returns-then-is_path_alone-clause-query c = alone_query c.args.options.now (sym c.if-is_path_alone.ensures)

pub returns-then-is_path_alone-clause-content_format : goal.returns-then-is_path_alone-clause-content_format
returns-then-is_path_alone-clause-content_format c =
    alone_content_format c.args.options.now (sym c.if-is_path_alone.ensures)

pub returns-then-is_path_alone-clause-observe : goal.returns-then-is_path_alone-clause-observe
returns-then-is_path_alone-clause-observe c = alone_observe c.args.options.now (sym c.if-is_path_alone.ensures)
