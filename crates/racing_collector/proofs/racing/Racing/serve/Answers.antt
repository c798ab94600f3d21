use Rattle.racing_collector.proofs.racing.Racing.serve.Goals as goal

pub returns-in_ok-serve_global-in-Global-clause-accounts :
    goal.returns-in_ok-serve_global-in-Global-clause-accounts
returns-in_ok-serve_global-in-Global-clause-accounts c greys was = c.in_ok-serve_global-in-Global.ensures.accounts greys c.args.served.now.items was

pub returns-in_ok-serve_object-in-Object-clause-accounts :
    goal.returns-in_ok-serve_object-in-Object-clause-accounts
returns-in_ok-serve_object-in-Object-clause-accounts c greys was = c.in_ok-serve_object-in-Object.ensures.accounts greys c.args.served.now.items was
