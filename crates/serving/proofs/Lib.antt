mod Serves
