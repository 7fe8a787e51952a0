mod HeardTo
